use Rattle.arch_file.proofs.Prelude.{◌≡◌, Bool, true, false, refl, Decides, booleans_Decides, slice_eq-Decides, Pin, Sides, PinClass, Input, Output, Clock}
use Rattle.std.specs.Prelude.{◌&&◌}
use Rattle.arch_file.specs.contracts.arch.PinPartialEq.TheImpl.{eq-value as pin_eq}
use Rattle.arch_file.specs.contracts.arch.SidesPartialEq.TheImpl.{eq-value as sides_eq}
use Rattle.arch_file.specs.contracts.arch.PinClassPartialEq.TheImpl.{eq-value as class_eq}
use Rattle.arch_file.proofs.arch.same_pins.Goals as goal

both : {P Q : Type 0} (a b : Bool) → Decides a P → Decides b Q → Decides (a && b) (P × Q)
both true b p q = (λ is. (p.0 refl, q.0 is), λ is. q.1 is.1)
both false b p q = (λ is. absurd (cc), λ is. p.1 is.0)

said : {P Q : Type 0} (a : Bool) → (P → Q) → (Q → P) → Decides a P → Decides a Q
said a to from d = (λ is. to (d.0 is), λ is. d.1 (from is))

class_eq-Decides : (a b : PinClass) → Decides (class_eq.it a b) (a ≡ b)
class_eq-Decides Input Input = (λ is. refl, λ is. refl)
class_eq-Decides Output Output = (λ is. refl, λ is. refl)
class_eq-Decides Clock Clock = (λ is. refl, λ is. refl)
class_eq-Decides _ _ = (λ is. cc, λ is. cc)

abbrev sides_of : Bool → Bool → Bool → Bool → Sides
sides_of a b c d = record { top = a; bottom = b; left = c; right = d }

sides_of-same : (a a' : Bool) (b b' : Bool) (c c' : Bool) (d d' : Bool) → a ≡ a' → b ≡ b' → c ≡ c' → d ≡ d' → sides_of a b c d ≡ sides_of a' b' c' d'
sides_of-same a a' b b' c c' d d' pa pb pc pd = rw (pa, pb, pc, pd) refl

sides_eq-Decides : (a b : Sides) → Decides (sides_eq.it a b) (a ≡ b)
sides_eq-Decides a b =
    said (sides_eq.it a b) (λ is. sides_of-same a.top b.top a.bottom b.bottom a.left b.left a.right b.right is.0 is.1.0 is.1.1.0 is.1.1.1) (λ is. (cc, (cc, (cc, cc))))
    (both _ _ (booleans_Decides a.top b.top) (both _ _ (booleans_Decides a.bottom b.bottom) (both _ _ (booleans_Decides a.left b.left) (booleans_Decides a.right b.right))))

abbrev pin_of : PinClass → Sides → Pin
pin_of a b = record { class = a; sides = b }

pin_of-same : (a a' : PinClass) (b b' : Sides) → a ≡ a' → b ≡ b' → pin_of a b ≡ pin_of a' b'
pin_of-same a a' b b' pa pb = rw (pa, pb) refl

pin_eq-Decides : (a b : Pin) → Decides (pin_eq.it a b) (a ≡ b)
pin_eq-Decides a b =
    said (pin_eq.it a b) (λ is. pin_of-same a.class b.class a.sides b.sides is.0 is.1) (λ is. (cc, cc)) (both _ _ (class_eq-Decides a.class b.class) (sides_eq-Decides a.sides b.sides))

pub returns : goal.returns
returns c = slice_eq-Decides pin_eq-Decides c.args.pins.now c.args.others.now c.eq.result c.eq.ensures
