-- Options and what is said of them.
use Rattle.layout_check.proofs.Prelude.{◌≡◌, ◌+◌, ◌<◌, ◌≤◌, ℕ, List, Option, get_or, length, subst, take, arith, All, MatchOption, take_all, All-more}

pub match_weaker : {X : Type 0} (o : Option X) (P R : Type 0) (Q S : X → Type 0) → (P → R) → ((x : X) → Q x → S x) → MatchOption o P Q → MatchOption o R S
match_weaker o P R Q S none some m = grind arith

-- one more item of which it holds, and all items
pub all_next : {X : Type 0} (P : X → Type 0) (xs : List X) (i : ℕ) (x : X) → i < length xs → x ≡ get_or xs i x → All P (take i xs) → P x → All P (take (i + 1) xs)
all_next P xs i x small item all holds = All-more P xs i x small all (subst P item holds)

pub all_done : {X : Type 0} (P : X → Type 0) (xs : List X) (n : ℕ) → length xs ≤ n → All P (take n xs) → All P xs
all_done P xs n end all = subst (λ ys. All P ys) (take_all n xs end) all
