-- One more cluster of a packing in progress.
use Rattle.cluster.proofs.Prelude.{◌≡◌, ℕ, suc, ◌+◌, ◌<◌, Bool, true, false, not, List, Option, [], ◌∷◌, ◌==◌, None, IsTrue, filter, length, max, refl, sym, ap, subst, ◌∙◌, arith, range_with_len, list_any-append, nat_tests, Arch, IsArch, Circuit, IsCircuit, has, LogicElement, bles_of, cluster_of, clusters_after, free_of, unfit_among, unfit_of, with_cluster, PackedCircuit, packed_of, packing_steps, FreeBlesState, IsUnderWay, steps_reached, filter_filter, free_same, no_cluster}
use Rattle.cluster.specs.Packing.{IsPacked}
use Rattle.cluster.proofs.Members.{packed_lawful}
use Rattle.cluster.proofs.Steps.{Going, going_first, last_step, one_of_more}

-- the BLEs that are free after one more cluster
free_with : (elements : List LogicElement) (clusters : List (List ℕ)) (cluster : List ℕ) → filter (λ number. not (has cluster number)) (free_of elements clusters) ≡ free_of elements (with_cluster clusters cluster)
free_with elements clusters cluster = grind (arith, filter_filter, list_any-append)

-- a packing in progress whose next step has made its cluster
pub record IsStepped (circuit : Circuit) (arch : Arch) (growth : FreeBlesState) (clusters : List (List ℕ)) (made : ℕ) : Type 0 where
  pub fit : unfit_of circuit arch ≡ None
  pub elements : growth.elements ≡ bles_of circuit
  pub free : growth.free ≡ free_of (bles_of circuit) clusters
  pub exact : clusters ≡ clusters_after arch (bles_of circuit) (suc made)
  pub going : Going arch (bles_of circuit) made
  pub begun : free_of (bles_of circuit) (clusters_after arch (bles_of circuit) made) ≡ [] → made ≡ 0

-- the clusters with one more are those after one more step
exact_more : (arch : Arch) (elements : List LogicElement) (free : List ℕ) (clusters : List (List ℕ)) (made : ℕ) → free ≡ free_of elements clusters → clusters ≡ clusters_after arch elements (steps_reached free made) → with_cluster clusters (cluster_of arch elements free) ≡ clusters_after arch elements (suc made)
unfolding clusters_after
exact_more arch elements free clusters made is exact = grind (arith, no_cluster)

pub stepped : (circuit : Circuit) (arch : Arch) (old new : FreeBlesState) (clusters later : List (List ℕ)) (made : ℕ) → IsUnderWay circuit arch old clusters made → new.elements ≡ old.elements → later ≡ with_cluster clusters (cluster_of arch old.elements old.free) → new.free ≡ filter (λ number. not (has (cluster_of arch old.elements old.free) number)) old.free → IsStepped circuit arch new later made
stepped circuit arch old new clusters later made way same added left = grind (arith, free_with, exact_more)

-- the packed circuit that results from packing
pub packed_is : (circuit : Circuit) (arch : Arch) (clusters : List (List ℕ)) → clusters ≡ clusters_after arch (bles_of circuit) (length (bles_of circuit)) → packed_of circuit arch ≡ record { circuit = circuit; arch = arch; clusters = clusters }
unfolding packed_of
packed_is circuit arch clusters is = let make : List (List ℕ) → PackedCircuit = λ cs. record { circuit = circuit; arch = arch; clusters = cs } in ap make (sym is)

steps_are : (circuit : Circuit) (arch : Arch) → packing_steps circuit arch ≡ max 1 (length (clusters_after arch (bles_of circuit) (length (bles_of circuit))))
unfolding packed_of
steps_are circuit arch = refl

-- further steps follow as long as a BLE is free
pub record GoesFurther (circuit : Circuit) (arch : Arch) (growth : FreeBlesState) (clusters : List (List ℕ)) (made : ℕ) : Type 0 where
  pub way : IsUnderWay circuit arch growth clusters (made + 1)
  pub more : made + 1 < packing_steps circuit arch

pub goes_further : (circuit : Circuit) (arch : Arch) (growth : FreeBlesState) (clusters : List (List ℕ)) (made : ℕ) → IsStepped circuit arch growth clusters made → 0 < length growth.free → GoesFurther circuit arch growth clusters made
goes_further circuit arch growth clusters made s some = by growth.free refl some
  where
    by : (free : List ℕ) → growth.free ≡ free → 0 < length free → GoesFurther circuit arch growth clusters made
    by [] e h = absurd (omega (arith, h))
    by (number ∷ free) e h =
        let elements = bles_of circuit in
        let left : free_of elements (clusters_after arch elements (suc made)) ≡ number ∷ free = sym (s.free ∙ ap (free_of elements) s.exact) ∙ e in
        let m = one_of_more arch elements made number free s.going left in
        let next : suc made ≡ made + 1 = omega arith in
        record {
          way = record {
            fit = s.fit;
            elements = s.elements;
            free = s.free;
            exact = s.exact ∙ ap (clusters_after arch elements) (next ∙ ap (λ ns. steps_reached ns (made + 1)) (sym e));
            count = rw (← next) m.going.clusters;
            taken = rw (← next) m.going.taken;
            begun = λ none. let wrong : number ∷ free ≡ [] = sym left ∙ ap (λ n. free_of elements (clusters_after arch elements n)) next ∙ none in absurd cc;
          };
          more = rw (steps_are circuit arch) m.more;
        }

-- no BLE is free any more
pub record Ends (circuit : Circuit) (arch : Arch) (growth : FreeBlesState) (clusters : List (List ℕ)) (made : ℕ) : Type 0 where
  pub way : IsUnderWay circuit arch growth clusters made
  pub packed : packed_of circuit arch ≡ record { circuit = circuit; arch = arch; clusters = clusters }
  pub steps : made + 1 ≡ packing_steps circuit arch

pub ends : (circuit : Circuit) (arch : Arch) (growth : FreeBlesState) (clusters : List (List ℕ)) (made : ℕ) → IsStepped circuit arch growth clusters made → growth.free ≡ [] → Ends circuit arch growth clusters made
ends circuit arch growth clusters made s none =
    let elements = bles_of circuit in
    let left : free_of elements (clusters_after arch elements (suc made)) ≡ [] = sym (s.free ∙ ap (free_of elements) s.exact) ∙ none in
    let l = last_step arch elements made s.going s.begun left in
    grind (arith, packed_is)

-- the packed circuit is lawful
pub ends_lawful : (circuit : Circuit) (arch : Arch) (clusters : List (List ℕ)) → IsCircuit circuit → IsArch arch → unfit_of circuit arch ≡ None → packed_of circuit arch ≡ record { circuit = circuit; arch = arch; clusters = clusters } → IsPacked (record { circuit = circuit; arch = arch; clusters = clusters })
ends_lawful circuit arch clusters lawful profile fit is = subst IsPacked is (packed_lawful circuit arch lawful profile fit)

-- the state before the first step
begins_exact : (arch : Arch) (elements : List LogicElement) (free : List ℕ) → free ≡ free_of elements [] → [] ≡ clusters_after arch elements (steps_reached free 0)
unfolding clusters_after
begins_exact arch elements free is = grind (arith, no_cluster)

pub begins : (circuit : Circuit) (arch : Arch) (growth : FreeBlesState) (clusters : List (List ℕ)) → unfit_of circuit arch ≡ None → growth.elements ≡ bles_of circuit → growth.free ≡ range_with_len 0 (length (bles_of circuit)) → clusters ≡ [] → IsUnderWay circuit arch growth clusters 0
begins circuit arch growth clusters fit same free none =
    let elements = bles_of circuit in
    let g = going_first arch elements in
    let all : growth.free ≡ free_of elements [] = free ∙ free_same (range_with_len 0 (length elements)) in
    grind (arith, begins_exact)

-- all BLEs fit alone
pub fit_among : (circuit : Circuit) (arch : Arch) (elements : List LogicElement) → unfit_of circuit arch ≡ None → elements ≡ bles_of circuit → unfit_among arch elements ≡ None
unfolding unfit_of
fit_among circuit arch elements fit is = rw is fit

-- the least BLE that doesn't fit alone is the circuit's
pub unfit_is : (circuit : Circuit) (arch : Arch) (elements : List LogicElement) (number : Option ℕ) → elements ≡ bles_of circuit → number ≡ unfit_among arch elements → unfit_of circuit arch ≡ number
unfolding unfit_of
unfit_is circuit arch elements number is found = ap (unfit_among arch) (sym is) ∙ sym found

-- if the test fails, no BLE is free
pub none_left : (free : List ℕ) (found : Bool) → (0 < length free → IsTrue found) → found ≡ false → free ≡ []
none_left [] found says is = refl
none_left (number ∷ free) found says is = let yes = says (omega arith) in absurd cc

-- if the cluster has no members, nothing is taken
pub none_taken : (free cluster : List ℕ) → (length cluster == 0) ≡ true → free ≡ filter (λ number. not (has cluster number)) free
none_taken free [] is = free_same free
none_taken free (number ∷ cluster) is = absurd (grind (arith, nat_tests, is))
