-- Files that are written one after another.
use Rattle.std.proofs.Common.{◌≡◌, List, [], ◌++◌, Option, Some, None, sym, ap, ◌∙◌, append_assoc, append-nil}
use Rattle.desk_common.specs.Outputs.{AreAdded, NamedBytes}

pub added_none : (a : Option (List NamedBytes)) → AreAdded a a []
added_none None = tt
added_none (Some before) = sym (append-nil before)

pub added_then : (a b c : Option (List NamedBytes)) (first next : List NamedBytes) → AreAdded a b first → AreAdded b c next → AreAdded a c (first ++ next)
added_then None b c first next p q = tt
added_then (Some x) None c first next p q = absurd p
added_then (Some x) (Some y) None first next p q = absurd q
added_then (Some x) (Some y) (Some z) first next p q = q ∙ ap (λ files. files ++ next) p ∙ append_assoc x first next
