-- The first condition that parts do not pass is the first that they break.
use Rattle.std.proofs.Common.{◌≡◌, inl, inr, Option, Some, None, refl, sym, ◌∙◌}
use Rattle.list_core.specs.Members.{In}
use Rattle.join_bundle.proofs.Firsts.{none_fails, first_fails, one_first}
use Rattle.centre_parts.specs.declared.condition.Condition.{Condition}
use Rattle.centre_parts.specs.declared.condition.Condition.TheVariants.{Centre, Known, Limit, Widths, Rows, Outbox, Room, MarkOverBase, StableOverMark, KnownOverTrimmed, Notes, NoteStamps, PointClients, PointObjects, RestUpdates, RestDots, RestNumbers}
use Rattle.centre_parts.specs.declared.part.CentreParts.{CentreParts}
use Rattle.centre_parts.specs.Conditions.{order, Meets, IsFirstBroken, IsBroken}
use Rattle.centre_parts.specs.Tests.{passes, first_failed}
use Rattle.centre_parts.proofs.Deciding.{tells}

-- each condition has its place
listed : (condition : Condition) → In condition order
listed Centre = inl refl
listed Known = inr (inl refl)
listed Limit = inr (inr (inl refl))
listed Widths = inr (inr (inr (inl refl)))
listed Rows = inr (inr (inr (inr (inl refl))))
listed Outbox = inr (inr (inr (inr (inr (inl refl)))))
listed Room = inr (inr (inr (inr (inr (inr (inl refl))))))
listed MarkOverBase = inr (inr (inr (inr (inr (inr (inr (inl refl)))))))
listed StableOverMark = inr (inr (inr (inr (inr (inr (inr (inr (inl refl))))))))
listed KnownOverTrimmed = inr (inr (inr (inr (inr (inr (inr (inr (inr (inl refl)))))))))
listed Notes = inr (inr (inr (inr (inr (inr (inr (inr (inr (inr (inl refl))))))))))
listed NoteStamps = inr (inr (inr (inr (inr (inr (inr (inr (inr (inr (inr (inl refl)))))))))))
listed PointClients = inr (inr (inr (inr (inr (inr (inr (inr (inr (inr (inr (inr (inl refl))))))))))))
listed PointObjects = inr (inr (inr (inr (inr (inr (inr (inr (inr (inr (inr (inr (inr (inl refl)))))))))))))
listed RestUpdates = inr (inr (inr (inr (inr (inr (inr (inr (inr (inr (inr (inr (inr (inr (inl refl))))))))))))))
listed RestDots = inr (inr (inr (inr (inr (inr (inr (inr (inr (inr (inr (inr (inr (inr (inr (inl refl)))))))))))))))
listed RestNumbers = inr (inr (inr (inr (inr (inr (inr (inr (inr (inr (inr (inr (inr (inr (inr (inr (inl refl))))))))))))))))

-- the first test that parts do not pass is of the first condition that they break
pub is_broken : (p : CentreParts) (failed : Option Condition) → failed ≡ first_failed p → IsBroken p failed
is_broken p None is = record { meets = λ condition. none_fails (λ c. passes c p) (λ c. Meets c p) (λ c. tells c p) order (sym is) condition (listed condition) }
is_broken p (Some condition) is =
    let f = first_fails (λ c. passes c p) (λ c. Meets c p) (λ c. tells c p) order condition (sym is) in
    record { before = f.before; after = f.after; place = f.place; met = f.met; broken = f.broken }

-- parts break one condition first
pub one_broken : (p : CentreParts) (condition other : Condition) → IsFirstBroken p condition → IsFirstBroken p other → condition ≡ other
one_broken p condition other a b = one_first (λ c. Meets c p) a.before b.before a.after b.after condition other (sym a.place ∙ b.place) a.met a.broken b.met b.broken
