-- Inside a cluster of a packed circuit: traced back, each BLE is the one that was packed.
use Rattle.implements.proofs.Prelude.{get_or, ◌≡◌, ℕ, suc, zero, ◌+◌, ◌<◌, ◌≤◌, Bool, true, false, ◌&&◌, ◌==◌, List, [], ◌∷◌, cond, length, map, take, Option, Some, None, slice_get, sym, ap, refl, ◌∙◌, inl, inr, ◌⊎◌, arith, option_and_then, option_map, position, Contains, count_by, enumerate_from, position_from, zip, option_map_or, eqb-true, nat_tests, position_from-zero, position-Some, sum_by-cons, slice_get-get_or, slice_get-map, Pin as ArchPin, PinClass, Input, Clock, clocks_of, outside_inputs, LogicElement, PackedCircuit, outputs_of, net_on_pin, elements_in, is_same_class, pins_of, Cluster, Place, driver_place, pin_with, pin_at, Feed, Ble, is_net, feed_of, laid_ble, laid_block, LaidBle, LaidBlock, input_net, on_pin}
use Rattle.implements.specs.declared.feed.Feed.TheVariants.{Pin}

-- ---- lists

-- if a test passes somewhere, a first place is found
found_from : {X : Type 0} (p : X → Bool) (start : ℕ) (xs : List X) (k : ℕ) (x : X) → slice_get xs k ≡ Some x → p x ≡ true → (j : ℕ) × (position_from p start xs ≡ Some j)
found_from p start [] k x at passes = absurd cc
found_from p start (y ∷ xs) zero x at passes = let same : y ≡ x = cc in (start, ap (λ b. cond b (Some start) (position_from p (start + 1) xs)) (ap p same ∙ passes))
found_from p start (y ∷ xs) (suc k) x at passes = by (p y) (found_from p (start + 1) xs k x at passes)
  where
    by : (b : Bool) → (j : ℕ) × (position_from p (start + 1) xs ≡ Some j) → (j : ℕ) × (cond b (Some start) (position_from p (start + 1) xs) ≡ Some j)
    by true rest = (start, refl)
    by false rest = rest

found : {X : Type 0} (p : X → Bool) (xs : List X) (k : ℕ) (x : X) → slice_get xs k ≡ Some x → p x ≡ true → (j : ℕ) × (position p xs ≡ Some j)
found p xs k x at passes = let q = found_from p 0 xs k x at passes in (q.0, position_from-zero p xs ∙ q.1)

count_by-cons : {X : Type 0} (p : X → Bool) (x : X) (xs : List X) → count_by p (x ∷ xs) ≡ cond (p x) 1 0 + count_by p xs
count_by-cons p x xs = sum_by-cons (λ y. cond (p y) 1 0) x xs

-- the place of a rank among those that pass a test
ranked : {X : Type 0} (p : X → Bool) (xs : List X) (r : ℕ) → r < count_by p xs → (k : ℕ) × (x : X) × (slice_get xs k ≡ Some x) × (p x ≡ true) × (count_by p (take k xs) ≡ r)
ranked p [] r h = absurd (omega (arith, h))
ranked {X} p (x ∷ xs) r h = by (p x) refl (ranked p xs) r h
  where
    by : (b : Bool) → p x ≡ b → ((r : ℕ) → r < count_by p xs → (k : ℕ) × (y : X) × (slice_get xs k ≡ Some y) × (p y ≡ true) × (count_by p (take k xs) ≡ r)) →
        (r : ℕ) → r < count_by p (x ∷ xs) → (k : ℕ) × (y : X) × (slice_get (x ∷ xs) k ≡ Some y) × (p y ≡ true) × (count_by p (take k (x ∷ xs)) ≡ r)
    by true is rest zero h = (0, x, refl, is, refl)
    by true is rest (suc r) h =
        let more : (ys : List X) → count_by p (x ∷ ys) ≡ 1 + count_by p ys = λ ys. count_by-cons p x ys ∙ ap {B = ℕ} (λ (b : Bool). cond b 1 0 + count_by p ys) is in
        let q = rest r (omega (arith, h, more xs)) in
        (suc q.0, q.1, q.2, q.3, omega (arith, q.4, more (take q.0 xs)))
    by false is rest r h =
        let more : (ys : List X) → count_by p (x ∷ ys) ≡ 0 + count_by p ys = λ ys. count_by-cons p x ys ∙ ap {B = ℕ} (λ (b : Bool). cond b 1 0 + count_by p ys) is in
        let q = rest r (omega (arith, h, more xs)) in
        (suc q.0, q.1, q.2, q.3, omega (arith, q.4, more (take q.0 xs)))

pub enumerated : {X : Type 0} (start : ℕ) (xs : List X) (k : ℕ) (x : X) → slice_get xs k ≡ Some x → slice_get (enumerate_from start xs) k ≡ Some (start + k, x)
enumerated start [] k x at = absurd cc
enumerated start (y ∷ xs) zero x at = let same : y ≡ x = cc in let here : start ≡ start + 0 = omega arith in ap (λ (n : ℕ). Some (n, y)) here ∙ ap (λ z. Some (start + 0, z)) same
enumerated start (y ∷ xs) (suc k) x at = let here : start + 1 + k ≡ start + suc k = omega arith in enumerated (start + 1) xs k x at ∙ ap (λ (n : ℕ). Some (n, x)) here

-- two lists side by side
apart_at : {A B : Type 0} (ks : List A) (vs : List B) (i : ℕ) (k : A) (v : B) → slice_get (zip ks vs) i ≡ Some (k, v) → (slice_get ks i ≡ Some k) × (slice_get vs i ≡ Some v)
apart_at [] vs i k v at = absurd cc
apart_at (x ∷ ks) [] i k v at = absurd cc
apart_at {A} {B} (x ∷ ks) (y ∷ vs) zero k v at = let same : (x, y) ≡ (k, v) = cc in (ap (λ (pair : A × B). Some pair.0) same, ap (λ (pair : A × B). Some pair.1) same)
apart_at (x ∷ ks) (y ∷ vs) (suc i) k v at = apart_at ks vs i k v at

pub at_member : {X : Type 0} (xs : List X) (x : X) → Contains xs x → (k : ℕ) × (k < length xs) × (slice_get xs k ≡ Some x)
at_member xs x (k, within, is) = (k, within, slice_get-get_or xs k x within ∙ ap (λ y. Some y) is)

-- ---- pins

pub same_class : (class other : PinClass) → is_same_class class other ≡ true → other ≡ class
same_class class other h = grind arith

pub is_some_net : (o : Option ℕ) (net : ℕ) → is_net net o ≡ true → o ≡ Some net
is_some_net o net h = grind arith

module _ (packed : PackedCircuit) (cluster : ℕ) (place : Place) where
  abbrev laid : LaidBlock
  laid = laid_block packed (Cluster cluster) place

  abbrev goes : PinClass → ℕ → ArchPin × Option ℕ → Bool
  goes class net pin = is_same_class class pin.0.class && option_map_or (λ net_on_pin. net_on_pin == net) pin.1 false

  -- what is found carries the net
  pub pin_is : (class : PinClass) (net j : ℕ) → pin_with packed cluster class net ≡ Some j → on_pin packed.arch laid class j ≡ Some net
  pin_is class net j is =
      let all = zip packed.arch.pins (pins_of packed cluster) in
      let d : ArchPin × Option ℕ = (record { class = Input; sides = record { top = false; bottom = false; left = false; right = false } }, None) in
      let at = position-Some (goes class net) all j d is in
      let parts = apart_at packed.arch.pins (pins_of packed cluster) j (get_or all j d).0 (get_or all j d).1 (slice_get-get_or all j d at.0) in
      let passes : goes class net (get_or all j d) ≡ true = at.1 in
      let test : is_same_class class (get_or all j d).0.class ≡ true = grind (arith, passes) in
      let on : option_map_or (λ net_on_pin. net_on_pin == net) (get_or all j d).1 false ≡ true = grind (arith, passes) in
      ap (λ (o : Option ArchPin). cond (option_map_or (λ (found : ArchPin). is_same_class class found.class) o false) (option_and_then (λ (net : Option ℕ). net) (slice_get (pins_of packed cluster) j)) None) parts.0
      ∙ ap (λ (b : Bool). cond b (option_and_then (λ (net : Option ℕ). net) (slice_get (pins_of packed cluster) j)) None) test
      ∙ ap (option_and_then (λ (net : Option ℕ). net)) parts.1
      ∙ is_some_net (get_or all j d).1 net on

  -- if a net is carried by rank, a pin is found
  pub pin_there : (class : PinClass) (r net : ℕ) → net_on_pin packed cluster class r ≡ Some net → r < count_by (λ (pin : ArchPin). is_same_class class pin.class) packed.arch.pins → (j : ℕ) × (pin_with packed cluster class net ≡ Some j)
  pin_there class r net is small =
      let pins = packed.arch.pins in
      let at = ranked (λ (pin : ArchPin). is_same_class class pin.class) pins r small in
      let k = at.0 in
      let pin = at.1 in
      let f : ℕ × ArchPin → Option ℕ = λ pin. net_on_pin packed cluster pin.1.class (count_by (λ (other : ArchPin). is_same_class pin.1.class other.class) (take pin.0 pins)) in
      let class_is : pin.class ≡ class = same_class class pin.class at.3 in
      let here : 0 + k ≡ k = omega arith in
      let carries : slice_get (pins_of packed cluster) k ≡ Some (Some net) =
      slice_get-map f (enumerate_from 0 pins) k
      ∙ ap (option_map f) (enumerated 0 pins k pin at.2)
      ∙ ap (λ (n : ℕ). Some (f (n, pin))) here
      ∙ ap (λ (class : PinClass). Some (net_on_pin packed cluster class (count_by (λ (other : ArchPin). is_same_class class other.class) (take k pins)))) class_is
      ∙ ap (λ (r : ℕ). Some (net_on_pin packed cluster class r)) at.4
      ∙ ap (λ (o : Option ℕ). Some o) is in
      let same : (net == net) ≡ true = grind (arith, nat_tests) in
      let passes : goes class net (pin, Some net) ≡ true = ap (λ (b : Bool). b && (net == net)) at.3 ∙ same in
      found (goes class net) (zip pins (pins_of packed cluster)) k (pin, Some net) (pin_at packed cluster k pin (Some net) at.2 carries) passes

  -- the members of a class are no more than its pins
  AreFew : PinClass → List ℕ → Type 0
  AreFew class nets = length nets ≤ count_by (λ (pin : ArchPin). is_same_class class pin.class) packed.arch.pins

  pub input_there : (net : ℕ) → length (outside_inputs (elements_in packed cluster)) ≤ count_by (λ (pin : ArchPin). is_same_class Input pin.class) packed.arch.pins → Contains (outside_inputs (elements_in packed cluster)) net →
      (j : ℕ) × (pin_with packed cluster Input net ≡ Some j)
  input_there net few c = let at = at_member (outside_inputs (elements_in packed cluster)) net c in pin_there Input at.0 net at.2 (omega (arith, at.1, few))

  pub clock_there : (net : ℕ) → length (clocks_of (elements_in packed cluster)) ≤ count_by (λ (pin : ArchPin). is_same_class Clock pin.class) packed.arch.pins → Contains (clocks_of (elements_in packed cluster)) net →
      (j : ℕ) × (pin_with packed cluster Clock net ≡ Some j)
  clock_there net few c = let at = at_member (clocks_of (elements_in packed cluster)) net c in pin_there Clock at.0 net at.2 (omega (arith, at.1, few))

  -- what a BLE of the cluster reads comes from a BLE of it that drives it, or from a pin
  pub feed_is : (net : ℕ) → length (outside_inputs (elements_in packed cluster)) ≤ count_by (λ (pin : ArchPin). is_same_class Input pin.class) packed.arch.pins →
      (Contains (outputs_of (elements_in packed cluster)) net ⊎ Contains (outside_inputs (elements_in packed cluster)) net) → (feed : Feed) × (feed_of packed cluster net ≡ Some feed) × (input_net packed.arch laid feed ≡ Some net)
  feed_is net few among = by (driver_place packed cluster net) refl among
    where
      drives : ℕ → Bool
      drives = λ output. output == net

      by : (o : Option ℕ) → driver_place packed cluster net ≡ o → (Contains (outputs_of (elements_in packed cluster)) net ⊎ Contains (outside_inputs (elements_in packed cluster)) net) → (feed : Feed) × (feed_of packed cluster net ≡ Some feed) × (input_net packed.arch laid feed ≡ Some net)
      by (Some place) is among =
          let outputs = outputs_of (elements_in packed cluster) in
          let at = position-Some (λ output. output == net) outputs place 0 is in
          let name : slice_get outputs place ≡ Some net = slice_get-get_or outputs place 0 at.0 ∙ ap (λ (n : ℕ). Some n) (eqb-true (get_or outputs place 0) net at.1) in (
            Ble place,
            ap (λ (o : Option ℕ). option_map_or (λ place. Some (Ble place)) o (option_map Pin (pin_with packed cluster Input net))) is,
            named (elements_in packed cluster) place (sym (slice_get-map (λ (element : LogicElement). element.output) (elements_in packed cluster) place) ∙ name),
          )
        where
          named : (elements : List LogicElement) (place : ℕ) → option_map (λ (element : LogicElement). element.output) (slice_get elements place) ≡ Some net →
              option_map (λ (ble : LaidBle). ble.name) (slice_get (map (laid_ble packed cluster) elements) place) ≡ Some net
          named [] place h = absurd cc
          named (element ∷ elements) zero h = h
          named (element ∷ elements) (suc place) h = named elements place h
      by None is (inl inside) =
          let outputs = outputs_of (elements_in packed cluster) in
          let at = at_member outputs net inside in
          let q = found (λ output. output == net) outputs at.0 net at.2 (grind (arith, nat_tests)) in
          let wrong : None ≡ Some q.0 = sym is ∙ q.1 in absurd cc
      by None is (inr outside) =
          let q = input_there net few outside in
          (Pin q.0, ap (λ (o : Option ℕ). option_map_or (λ place. Some (Ble place)) o (option_map Pin (pin_with packed cluster Input net))) is ∙ ap (option_map Pin) q.1, pin_is Input net q.0 q.1)
