-- What lies on the links of a world was sent.
use Rattle.std.proofs.Common.{◌≡◌, ◌≤◌, ℕ, ◌*◌, ⊎_elim, List, [], ◌++◌, subst, arith}
use Rattle.std.proofs.lemmas.List.{get_or-replicate}
use Rattle.ids_core.specs.declared.limits.TheConstants.{MOST_CENTRES}
use Rattle.list_core.specs.Members.{In}
use Rattle.dc_talk.specs.declared.log.Deed.{Deed}
use Rattle.script_core.specs.Steps.{IsCount}
use Rattle.script_core.specs.Mail.{Post, new_post, lying}
use Rattle.script_core.proofs.Mailing.{mailed_sent}
use Rattle.dc_mail.specs.Posts.{place_of, post_at, new_posts, IsCentre}
use Rattle.dc_mail.proofs.Places.{place_within}
use Rattle.run_book.specs.Setups.{Setup}
use Rattle.run_book.specs.Happenings.{Happened, happening, AreTogether}
use Rattle.run_book.specs.Moves.{Does}
use Rattle.run_book.proofs.Happenings.Sending.{sent_later}
use Rattle.run_book.proofs.Happenings.Carrying.{last_done, sent_there}
use Rattle.run_book.proofs.Happenings.Posts.{lies_after}
use Rattle.run_table.specs.Tables.{Turn, HasPosts}
use Rattle.world_core.specs.Worlds.{IsMailSent, notes_in}

-- on new links nothing lies
pub new_post_at : (n from to : ℕ) → n ≤ MOST_CENTRES → IsCount n from → IsCount n to → post_at new_posts from to ≡ new_post
new_post_at n from to few f t =
    let one : IsCentre from = (f.0, omega (arith, f.1, few)) in
    let two : IsCentre to = (t.0, omega (arith, t.1, few)) in
    get_or-replicate (MOST_CENTRES * MOST_CENTRES) (place_of from to) new_post new_post (place_within from to one two)

pub new_mail : (n : ℕ) → n ≤ MOST_CENTRES → IsMailSent n new_posts []
new_mail n few from to f t item there = absurd (subst (λ post. In item (lying post)) (new_post_at n from to few f t) there)

-- what was sent stays so
pub mail_later : (n : ℕ) (old new : List Post) (all more : List Happened) → new ≡ old → IsMailSent n old all → IsMailSent n new (all ++ more)
mail_later n old new all more same mail from to f t item there = sent_later all more item (mail from to f t item (subst (λ posts. In item (lying (post_at posts from to))) same there))

-- what deeds put on the links they brought
pub mail_after : (n k : ℕ) (setup : Setup) (does : Does) (turn : Turn) (deeds : List Deed) (all : List Happened) (old new : List Post) → AreTogether n k setup (all ++ happening turn.actor (notes_in turn deeds)) → HasPosts n does deeds old new → IsMailSent n old all → IsMailSent n new (all ++ happening turn.actor (notes_in turn deeds))
mail_after n k setup does turn deeds all old new together posts mail from to f t item there =
    let more : List Happened = happening turn.actor (notes_in turn deeds) in
    ⊎_elim
    (λ lay. sent_later all more item (mail from to f t item lay))
    (λ put. sent_there n k setup (all ++ more) together deeds (last_done all turn.actor turn.section turn.step deeds) item (mailed_sent to deeds item put))
    (lies_after does deeds (post_at old) from to item (subst (λ post. In item (lying post)) (posts from to f t) there))
