-- The texts that a tenancy is drawn from.
use Rattle.desk_layouts.proofs.Prelude.{◌≡◌, ℕ, Bool, true, List, Option, Some, None, IfSome, is_some, codes, refl, sym, subst, bytes_eq, AreBytes, AreBytesIf, without_nets, StripWishes, Against}

-- without a file with routes there are no nets
pub texts_without_routes : (text : List ℕ → Option (List ℕ)) (wishes : StripWishes) (net place : List ℕ) → bytes_eq wishes.route_file.now (codes "-") ≡ true → AreBytes text wishes net place (without_nets net place)
texts_without_routes text wishes net place is_none = subst (λ (b : Bool). AreBytesIf b (text wishes.route_file.now) net place (without_nets net place)) (sym is_none) refl

-- nothing is checked then
pub unchecked : (against : Option Against) (P : Against → Type 0) → (is_some against ≡ true → ⊥) → IfSome against P
unchecked None P none = tt
unchecked (Some against) P none = absurd (none refl)
