-- What is off a link where a round over it came to an early end.
use Rattle.std.proofs.Common.{◌≡◌, List, [], ◌++◌, take, drop, Result, Ok, Err, OnErr, refl, sym, ap, ◌∙◌}
use Rattle.std.proofs.lemmas.List.{append-nil, take-append-drop}
use Rattle.dc_talk.specs.declared.sent.Sent.{Sent}
use Rattle.dc_talk.specs.Acting.{Acting, IsCutShort}
use Rattle.script_core.specs.declared.rounds.TheConstants.{MOST_MAILED}
use Rattle.script_core.specs.Carrying.{Route}
use Rattle.script_core.specs.Mail.{Post}
use Rattle.dc_worker.specs.Brings.{BringsPart}
use Rattle.dc_worker.proofs.Bringing.{brings_part_none}
use Rattle.dc_mail.specs.Posts.{PostPart}

-- nothing
pub part_none : (r : Route) (post : Post) (a b : Acting) → IsCutShort a b → PostPart r post post a b
part_none r post a b cut = record { off = []; waits = refl; brings = brings_part_none r post.inlet a b cut }

-- what a round takes
pub part_taken : (r : Route) (post now : Post) (items : List Sent) (a b : Acting) → items ≡ take MOST_MAILED post.waits → now.waits ≡ drop MOST_MAILED post.waits → BringsPart r items post.inlet now.inlet a b → PostPart r post now a b
part_taken r post now items a b are rest got = record {
  off = items;
  waits = sym (take-append-drop MOST_MAILED post.waits) ∙ (λ i. sym are i ++ sym rest i);
  brings = got;
}

-- all that lay there
pub part_all : (r : Route) (post now : Post) (items : List Sent) (a b : Acting) → items ≡ post.waits → now.waits ≡ [] → BringsPart r items post.inlet now.inlet a b → PostPart r post now a b
part_all r post now items a b are none got = record {
  off = items;
  waits = sym (ap (λ rest. items ++ rest) none ∙ (append-nil items ∙ are));
  brings = got;
}

-- what holds whether there is an error or not
pub on_err : {T E : Type 0} (r : Result T E) (P : Type 0) → P → OnErr r P
on_err (Ok x) P is = tt
on_err (Err e) P is = is
