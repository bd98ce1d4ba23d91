-- Nets, each once, in the order in which they first appear.
use Rattle.ble_cluster.proofs.Prelude.{◌≡◌, ℕ, Bool, true, false, List, [], ◌∷◌, ◌++◌, refl, ap, ◌+◌, ◌-◌, ◌<◌, length, take, drop, get_or, arith, length-append, append_assoc, drop_at, take_all, take_more, has, with_nets, distinct_nets, with_net}
use Rattle.std.specs.Prelude.{if◌then◌else◌}

-- one more of the added nets
pub with_nets-push : (nets others : List ℕ) (net : ℕ) → with_nets nets (others ++ net ∷ []) ≡ with_net (with_nets nets others) net
with_nets-push nets [] net = refl
with_nets-push nets (other ∷ others) net = with_nets-push (with_net nets other) others net

-- one more net
pub distinct-push : (nets : List ℕ) (net : ℕ) → distinct_nets (nets ++ net ∷ []) ≡ with_net (distinct_nets nets) net
distinct-push nets net = with_nets-push [] nets net

-- adding a net that is new, and one that is not
pub with_net-new : (nets : List ℕ) (net : ℕ) → has nets net ≡ false → with_net nets net ≡ nets ++ net ∷ []
with_net-new nets net new = ap (λ b. if b then nets else nets ++ net ∷ []) new

pub with_net-old : (nets : List ℕ) (net : ℕ) → has nets net ≡ true → with_net nets net ≡ nets
with_net-old nets net old = ap (λ b. if b then nets else nets ++ net ∷ []) old

-- whether the net is among the distinct nets after the old ones
seen_is : (old items nets : List ℕ) (start i net : ℕ) (seen : Bool) → start ≡ length old → items ≡ old ++ distinct_nets (take i nets) → seen ≡ has (take (length items - start) (drop start items)) net → has (distinct_nets (take i nets)) net ≡ seen
seen_is old items nets start i net seen starts is test = grind (arith, drop_at, length-append, take_all)

-- one more net, new or not
pub distinct_new : (old items nets : List ℕ) (start i d : ℕ) (seen : Bool) → i < length nets → start ≡ length old → items ≡ old ++ distinct_nets (take i nets) → seen ≡ has (take (length items - start) (drop start items)) (get_or nets i d) → seen ≡ false → items ++ get_or nets i d ∷ [] ≡ old ++ distinct_nets (take (i + 1) nets)
distinct_new old items nets start i d seen within starts is test new = grind (arith, take_more, distinct-push, with_net-new, append_assoc, seen_is old items nets start i (get_or nets i d) seen starts is test, take_more nets i d within, distinct-push (take i nets) (get_or nets i d), append_assoc old (distinct_nets (take i nets)) (get_or nets i d ∷ []))

pub distinct_old : (old items nets : List ℕ) (start i d : ℕ) (seen : Bool) → i < length nets → start ≡ length old → items ≡ old ++ distinct_nets (take i nets) → seen ≡ has (take (length items - start) (drop start items)) (get_or nets i d) → seen ≡ true → items ≡ old ++ distinct_nets (take (i + 1) nets)
distinct_old old items nets start i d seen within starts is test found = grind (arith, take_more, distinct-push, with_net-old, seen_is old items nets start i (get_or nets i d) seen starts is test, take_more nets i d within, distinct-push (take i nets) (get_or nets i d))
