-- The nets of the layout of results are such as files can say.
use Rattle.print_law.proofs.Prelude.{ℕ, refl, ◌<◌, ◌^◌, List, [], ◌∷◌, length, map, filter, Bool, true, false, cond, arith, inl, inr, sym, subst, All, Contains, enumerate_from, slice_index_or, cases_lt, get_or_past, All-contains, All-cons, All-nil, All-weaker, BlockNet, block_nets, blocks_of, PackedCircuit, IsBlockNet, IsLawfulPacking, all_members, from_filter, from_get, from_map, numbered, laid_net, LaidNet, FitsNet, IsSmallNode, EndsAtSink, HasWholePaths, Node}

-- the paths of each net end at a sink, and have small numbers
pub record ArePaths (paths : List (List Node)) : Type 0 where
  pub ends : All EndsAtSink paths
  pub small : All (All IsSmallNode) paths

module _ (packed : PackedCircuit) (laws : IsLawfulPacking packed) (routes : List (List (List Node))) (whole : All ArePaths routes) where
  abbrev nets : ℕ
  nets = length packed.circuit.nets

  paths_at : (number : ℕ) → ArePaths (slice_index_or routes number [])
  paths_at number = elim (cases_lt number (length routes)) [
    | inl small ↦ whole number [] small
    | inr past ↦ subst ArePaths (sym (get_or_past routes number [] past)) (record { ends = All-nil EndsAtSink; small = All-nil (All IsSmallNode) })
  ]

  block_net_is : (between : BlockNet) → Contains (block_nets packed) between → IsBlockNet packed between
  block_net_is between c = All-contains (IsBlockNet packed) (block_nets packed) between laws.nets c

  block_low : (block : ℕ) → block < length (blocks_of packed) → block < 2 ^ 32
  block_low block h = let few = laws.few_blocks in omega (arith, h, few)

  fits_net : (between : BlockNet) (paths : List (List Node)) → IsBlockNet packed between → ArePaths paths → FitsNet nets (laid_net between paths)
  fits_net between paths is are = by between.global
    where
      listed : All (λ block. block < 2 ^ 32) (between.driver ∷ between.readers)
      listed = All-cons (λ block. block < 2 ^ 32) between.driver between.readers (block_low between.driver is.driver) (All-weaker (λ block. block < length (blocks_of packed)) (λ block. block < 2 ^ 32) block_low between.readers is.readers)

      by : (global : Bool) → FitsNet nets (record { net = between.net; listed = cond global (between.driver ∷ between.readers) []; paths = cond global [] paths })
      by true = record { net = is.named; listed = listed; nodes = All-nil (All IsSmallNode) }
      by false = record { net = is.named; listed = All-nil (λ block. block < 2 ^ 32); nodes = are.small }

  whole_net : (between : BlockNet) (paths : List (List Node)) → ArePaths paths → HasWholePaths (laid_net between paths)
  whole_net between paths are = by between.global
    where
      by : (global : Bool) → HasWholePaths (record { net = between.net; listed = cond global (between.driver ∷ between.readers) []; paths = cond global [] paths })
      by true = record { ends = All-nil EndsAtSink; either = λ some. refl }
      by false = record { ends = are.ends; either = λ some. absurd (some refl) }

  abbrev net_at : ℕ × BlockNet → LaidNet
  net_at net = laid_net net.1 (slice_index_or routes net.0 [])

  abbrev laid_nets : List LaidNet
  laid_nets = map net_at (enumerate_from 0 (block_nets packed))

  pub all_nets_fit : All (FitsNet nets) laid_nets
  all_nets_fit = all_members (FitsNet nets) laid_nets (λ laid c.
      let q = from_map net_at (enumerate_from 0 (block_nets packed)) laid c in
      let at = numbered 0 (block_nets packed) q.0.0 q.0.1 q.1 in
      let there = (from_get (block_nets packed) at.0 q.0.1 at.2).1 in
      subst (FitsNet nets) q.2 (fits_net q.0.1 (slice_index_or routes q.0.0 []) (block_net_is q.0.1 there) (paths_at q.0.0)))

  pub all_nets_whole : All HasWholePaths laid_nets
  all_nets_whole = all_members HasWholePaths laid_nets (λ laid c.
      let q = from_map net_at (enumerate_from 0 (block_nets packed)) laid c in
      subst HasWholePaths q.2 (whole_net q.0.1 (slice_index_or routes q.0.0 []) (paths_at q.0.0)))

  pub globals_are : All (λ net. net < nets) (map (λ (between : BlockNet). between.net) (filter (λ (between : BlockNet). between.global) (block_nets packed)))
  globals_are = all_members (λ net. net < nets) (map (λ (between : BlockNet). between.net) (filter (λ (between : BlockNet). between.global) (block_nets packed))) (λ net c.
      let q = from_map (λ (between : BlockNet). between.net) (filter (λ (between : BlockNet). between.global) (block_nets packed)) net c in
      let there = (from_filter (λ (between : BlockNet). between.global) (block_nets packed) q.0 q.1).0 in
      subst (λ (net : ℕ). net < nets) q.2 (block_net_is q.0 there).named)
