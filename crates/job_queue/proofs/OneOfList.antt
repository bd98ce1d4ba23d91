-- One of the seats or passes of a queue.
use Rattle.job_queue.proofs.Prelude.{◌≡◌, ◌++◌, List, Option, All, IfSome, option_to_list, All-pop}

pub rest_of : {X I : Type 0} (of : X → I) (id : I) (xs ys : List X) (r : Option X) → xs ≡ ys ++ option_to_list r → All (λ x. of x ≡ id) xs → All (λ x. of x ≡ id) ys
rest_of of id xs ys r was all = (All-pop (λ x. of x ≡ id) xs ys r was all).0

pub one_of : {X I : Type 0} (of : X → I) (id : I) (xs ys : List X) (r : Option X) → xs ≡ ys ++ option_to_list r → All (λ x. of x ≡ id) xs → IfSome r (λ x. of x ≡ id)
one_of of id xs ys r was all = (All-pop (λ x. of x ≡ id) xs ys r was all).1
