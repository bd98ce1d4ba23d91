-- The users of each net.
use Rattle.cluster.proofs.Prelude.{◌≡◌, ◌<◌, ℕ, ◌+◌, Bool, false, nat_lt, ◌||◌, Option, List, [], ◌∷◌, length, take, get_or, filter, sym, ap, refl, ◌∙◌, arith, list_any, option_to_list, take_more, flat_map-append, Latch, with_nets, distinct_nets, NetsAmong, controls_of, with_nets-append}

-- some element passes if and only if the filtered list is not empty
pub some_left : (p : ℕ → Bool) (xs : List ℕ) → list_any p xs ≡ nat_lt 0 (length (filter p xs))
some_left p [] = refl
some_left p (x ∷ xs) = grind (arith, some_left p xs)

-- the second of two tests
pub second_test : (a b c : Bool) → a ≡ false → c ≡ b → c ≡ (a || b)
second_test a b c first second = second ∙ ap (λ (t : Bool). t || b) (sym first)

-- the controls of one more latch
pub controls_more : (latches : List Latch) (i count : ℕ) (d : Latch) (control : Option ℕ) (old new : NetsAmong) → i < length latches → (get_or latches i d).control ≡ control → old ≡ record { count = count; nets = distinct_nets (controls_of (take i latches)) } → new ≡ record { count = old.count; nets = with_nets old.nets (option_to_list control) } → new ≡ record { count = count; nets = distinct_nets (controls_of (take (i + 1) latches)) }
controls_more latches i count d control old new h is before after = grind (arith, flat_map-append, with_nets-append, take_more latches i d h)
