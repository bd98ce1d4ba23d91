-- Steps of packing: each makes one cluster of free BLEs as long as there are any; after that
-- nothing changes any more.
use Rattle.cluster.proofs.Prelude.{◌≡◌, ℕ, suc, zero, ◌+◌, ◌<◌, ◌≤◌, Bool, true, false, not, ◌||◌, ◌==◌, List, [], ◌∷◌, ◌++◌, filter, length, if◌then◌else◌, sym, ap, refl, ◌∙◌, arith, length-append, ◌-◌, max, eqb-true, nat_tests, list_any, range_with_len, list_any-append, length-range_with_len, Arch, has, LogicElement, cluster_of, clusters_after, free_of, members_after, input_count_at, leader_of, with_cluster, no_cluster}

-- a cluster begins with its seed
pub record BeginsWith (seed : ℕ) (members : List ℕ) : Type 0 where
  pub others : List ℕ
  pub whole : members ≡ seed ∷ others

grows_on : (arch : Arch) (elements : List LogicElement) (free : List ℕ) (seed additions : ℕ) → BeginsWith seed (members_after arch elements free (seed ∷ []) additions)
grows_on arch elements free seed zero = record { others = []; whole = refl }
grows_on arch elements free seed (suc additions) = grind (arith, grows_on arch elements free seed additions)

-- the leading number is the first or one of the others
leads_among : (score : ℕ → ℕ) (best : ℕ) (numbers : List ℕ) → has (best ∷ numbers) (leader_of score best numbers) ≡ true
leads_among score best [] = grind (arith, nat_tests)
leads_among score best (number ∷ numbers) = grind (arith, leads_among score number numbers, leads_among score best numbers)

-- a cluster of free BLEs has a free one as its seed, if there is one
pub record Seeded (free cluster : List ℕ) : Type 0 where
  pub seed : ℕ
  pub begins : BeginsWith seed cluster
  pub is_free : has free seed ≡ true

pub cluster_seeded : (arch : Arch) (elements : List LogicElement) (number : ℕ) (free : List ℕ) → Seeded (number ∷ free) (cluster_of arch elements (number ∷ free))
unfolding cluster_of
cluster_seeded arch elements number free = grind (arith, leads_among, grows_on arch elements (number ∷ free) (leader_of (input_count_at elements) number free) arch.cluster_size, leads_among (input_count_at elements) number free)

-- a stronger filter keeps at most as many numbers
filter_few : (p q : ℕ → Bool) (weaker : (n : ℕ) → q n ≡ true → p n ≡ true) (numbers : List ℕ) → length (filter q numbers) ≤ length (filter p numbers)
filter_few p q weaker [] = omega arith
filter_few p q weaker (number ∷ numbers) = grind (arith, filter_few p q weaker numbers)

filter_fewer : (p q : ℕ → Bool) (weaker : (n : ℕ) → q n ≡ true → p n ≡ true) (lost : ℕ) (numbers : List ℕ) → has (filter p numbers) lost ≡ true → q lost ≡ false → length (filter q numbers) < length (filter p numbers)
filter_fewer p q weaker lost [] h e = absurd cc
filter_fewer p q weaker lost (number ∷ numbers) h e = by (p number) (q number) refl refl h (filter_few p q weaker numbers) (λ h. filter_fewer p q weaker lost numbers h e)
  where
    at : (c : Bool) → (number == lost) ≡ c → q number ≡ true → c || has (filter p numbers) lost ≡ true → has (filter p numbers) lost ≡ true
    at true same eq h = let wrong : false ≡ true = sym e ∙ ap q (sym (eqb-true number lost same)) ∙ eq in absurd cc
    at false same eq h = h

    by : (a b : Bool) → p number ≡ a → q number ≡ b → has (if a then number ∷ filter p numbers else filter p numbers) lost ≡ true → length (filter q numbers) ≤ length (filter p numbers) → (has (filter p numbers) lost ≡ true → length (filter q numbers) < length (filter p numbers)) → length (if b then number ∷ filter q numbers else filter q numbers) < length (if a then number ∷ filter p numbers else filter p numbers)
    by true true ep eq h few fewer = let less = fewer (at (number == lost) refl eq h) in omega (arith, less)
    by true false ep eq h few fewer = omega (arith, few)
    by false true ep eq h few fewer = let wrong : false ≡ true = sym ep ∙ weaker number eq in absurd cc
    by false false ep eq h few fewer = fewer h

-- a BLE is free if it is in no cluster
abbrev is_free : List (List ℕ) → ℕ → Bool
is_free clusters number = not (list_any (λ cluster. has cluster number) clusters)

later_free : (clusters : List (List ℕ)) (cluster : List ℕ) (number : ℕ) → is_free (clusters ++ cluster ∷ []) number ≡ true → is_free clusters number ≡ true
later_free clusters cluster number h = let e = list_any-append (λ c. has c number) clusters (cluster ∷ []) in grind (arith, e, h)

taken_now : (clusters : List (List ℕ)) (cluster : List ℕ) (number : ℕ) → has cluster number ≡ true → is_free (clusters ++ cluster ∷ []) number ≡ false
taken_now clusters cluster number h = let e = list_any-append (λ c. has c number) clusters (cluster ∷ []) in grind (arith, e, h)

has_seed : {seed : ℕ} {members : List ℕ} → BeginsWith seed members → has members seed ≡ true
has_seed {seed} b = rw b.whole (grind (arith, nat_tests))

module _ (arch : Arch) (elements : List LogicElement) where
  -- the BLEs that are free after this number of steps
  abbrev pub free_after : ℕ → List ℕ
  free_after steps = free_of elements (clusters_after arch elements steps)

  -- a step changes nothing if no BLE is free
  pub step_idle : (steps : ℕ) → free_after steps ≡ [] → clusters_after arch elements (suc steps) ≡ clusters_after arch elements steps
  unfolding clusters_after
  step_idle steps none = rw none (rw (no_cluster arch elements) refl)

  -- a step when a BLE is free
  pub record StepMade (clusters later : List (List ℕ)) : Type 0 where
    pub more : length later ≡ length clusters + 1
    pub fewer : length (free_of elements later) < length (free_of elements clusters)

  with_seeded : (clusters : List (List ℕ)) (cluster : List ℕ) → Seeded (free_of elements clusters) cluster → StepMade clusters (with_cluster clusters cluster)
  with_seeded clusters cluster s = grind (arith, length-append, filter_fewer, later_free, taken_now)

  made : (clusters : List (List ℕ)) (number : ℕ) (free : List ℕ) → free_of elements clusters ≡ number ∷ free → StepMade clusters (with_cluster clusters (cluster_of arch elements (free_of elements clusters)))
  made clusters number free e = with_seeded clusters (cluster_of arch elements (free_of elements clusters)) (rw e (cluster_seeded arch elements number free))

  pub step_made : (steps number : ℕ) (free : List ℕ) → free_after steps ≡ number ∷ free → StepMade (clusters_after arch elements steps) (clusters_after arch elements (suc steps))
  unfolding clusters_after
  step_made steps number free e = made (clusters_after arch elements steps) number free e

  -- there are as many clusters as steps, and each took a BLE
  pub record Going (steps : ℕ) : Type 0 where
    pub clusters : length (clusters_after arch elements steps) ≡ steps
    pub taken : length (free_after steps) + steps ≤ length elements

  all_free : (numbers : List ℕ) → filter (is_free []) numbers ≡ numbers
  all_free [] = refl
  all_free (number ∷ numbers) = ap (λ ns. number ∷ ns) (all_free numbers)

  pub going_first : Going 0
  unfolding clusters_after
  going_first = record { clusters = refl; taken = rw (all_free (range_with_len 0 (length elements))) (omega (arith, length-range_with_len 0 (length elements))) }

  pub going_on : (steps number : ℕ) (free : List ℕ) → free_after steps ≡ number ∷ free → Going steps → Going (suc steps)
  going_on steps number free e g = let m = step_made steps number free e in record { clusters = omega (arith, m.more, g.clusters); taken = omega (arith, m.fewer, g.taken) }

  -- once no BLE is free, nothing changes any more
  idle : (steps more later : ℕ) → later ≡ more + steps → free_after steps ≡ [] → clusters_after arch elements later ≡ clusters_after arch elements steps
  idle steps zero later e none = let same : later ≡ steps = omega (arith, e) in ap (clusters_after arch elements) same
  idle steps (suc more) later e none =
      let same : later ≡ suc (more + steps) = omega (arith, e) in
      grind (arith, step_idle, idle steps more (more + steps) refl none)

  -- the number of clusters never decreases
  one_grows : (steps : ℕ) (free : List ℕ) → free_after steps ≡ free → length (clusters_after arch elements steps) ≤ length (clusters_after arch elements (suc steps))
  one_grows steps [] e = rw (step_idle steps e) (omega arith)
  one_grows steps (number ∷ free) e = let m = step_made steps number free e in omega (arith, m.more)

  grows : (steps more later : ℕ) → later ≡ more + steps → length (clusters_after arch elements steps) ≤ length (clusters_after arch elements later)
  grows steps zero later e = let same : later ≡ steps = omega (arith, e) in rw same (omega arith)
  grows steps (suc more) later e = grind (arith, one_grows, grows steps more (more + steps) refl)

  -- the clusters once each BLE is in one
  abbrev pub whole : List (List ℕ)
  whole = clusters_after arch elements (length elements)

  -- after a step that leaves no BLE free, all clusters are made
  pub record IsLastStep (done : ℕ) : Type 0 where
    pub clusters : clusters_after arch elements (done + 1) ≡ whole
    pub steps : done + 1 ≡ max 1 (length whole)

  at_end : (steps : ℕ) → free_after steps ≡ [] → steps ≤ length elements → whole ≡ clusters_after arch elements steps
  at_end steps none small = grind (arith, idle steps (length elements - steps) (length elements) (omega (arith, small)) none)

  last_of_some : (done number : ℕ) (free : List ℕ) → Going done → free_after done ≡ number ∷ free → free_after (suc done) ≡ [] → IsLastStep done
  last_of_some done number free g e none = grind (arith, going_on, at_end)

  last_of_none : (done : ℕ) → Going done → free_after done ≡ [] → done ≡ 0 → IsLastStep done
  last_of_none done g none first = grind (arith, at_end done none (omega (arith, g.taken)), step_idle done none)

  pub last_step : (done : ℕ) → Going done → (free_after done ≡ [] → done ≡ 0) → free_after (suc done) ≡ [] → IsLastStep done
  last_step done g begun none = by (free_after done) refl
    where
      by : (free : List ℕ) → free_after done ≡ free → IsLastStep done
      by [] e = last_of_none done g e (begun e)
      by (number ∷ free) e = last_of_some done number free g e none

  -- after a step that leaves a BLE free, more steps follow
  pub record IsOneOfMore (done : ℕ) : Type 0 where
    pub going : Going (suc done)
    pub more : done + 1 < max 1 (length whole)

  more_of_some : (done number other : ℕ) (free others : List ℕ) → Going done → free_after done ≡ number ∷ free → free_after (suc done) ≡ other ∷ others → IsOneOfMore done
  more_of_some done number other free others g e f =
      let h = going_on done number free e g in
      let k = going_on (suc done) other others f h in
      let enough : suc (suc done) ≤ length elements = omega (arith, k.taken) in
      let least = grows (suc (suc done)) (length elements - suc (suc done)) (length elements) (omega (arith, enough)) in
      record { going = h; more = omega (arith, k.clusters, least) }

  pub one_of_more : (done other : ℕ) (others : List ℕ) → Going done → free_after (suc done) ≡ other ∷ others → IsOneOfMore done
  one_of_more done other others g f = by (free_after done) refl
    where
      by : (free : List ℕ) → free_after done ≡ free → IsOneOfMore done
      by [] e = let same : free_after (suc done) ≡ [] = rw (step_idle done e) e in let wrong : other ∷ others ≡ [] = sym f ∙ same in absurd cc
      by (number ∷ free) e = more_of_some done number other free others g e f
