-- Each cluster fits, and no BLE occurs in it twice.
use Rattle.cluster.proofs.Prelude.{◌≡◌, ℕ, suc, zero, ◌<◌, true, false, List, [], ◌∷◌, ◌++◌, All, Option, None, Some, filter, length, refl, arith, ForSome, option_to_list, append-nil, All-nil, All-cons, All-head, All-tail, All-append, All-filter, filter_passes, nat_tests, Arch, IsOnce, has, LogicElement, cluster_of, elements_at, first_most, fits_in_cluster, members_after, input_count_at, may_join, next_member, seed_of, shared_nets, unfit_among, fits_alone, leading_lawful, once-push}

-- a chosen number has a property that all numbers have
pub chosen : (P : ℕ → Type 0) (score : ℕ → ℕ) (numbers : List ℕ) → All P numbers → ForSome (first_most score numbers) P
chosen P score [] all = λ number is. absurd cc
chosen P score (number ∷ numbers) all = grind (arith, leading_lawful P score number numbers (All-head P number numbers all) (All-tail P number numbers all))

-- a cluster that fits, of different BLEs that have a property
pub record IsLegal (arch : Arch) (elements : List LogicElement) (P : ℕ → Type 0) (members : List ℕ) : Type 0 where
  pub once : IsOnce members
  pub all : All P members
  pub fits : fits_in_cluster arch (elements_at elements members) ≡ true

-- the two tests of a BLE that may be added
joins : (arch : Arch) (elements : List LogicElement) (members : List ℕ) (number : ℕ) → may_join arch elements members number ≡ true → (has members number ≡ false) × (fits_in_cluster arch (elements_at elements (members ++ number ∷ [])) ≡ true)
joins arch elements members number may = grind arith

module _ (arch : Arch) (elements : List LogicElement) (P : ℕ → Type 0) (free : List ℕ) (all : All P free) where
  added : (members : List ℕ) → IsLegal arch elements P members → (found : Option ℕ) → next_member arch elements free members ≡ found → IsLegal arch elements P (members ++ option_to_list found)
  added members legal None is = rw (append-nil members) legal
  added members legal (Some number) is =
      let can = filter (may_join arch elements members) free in
      let score = shared_nets elements members in
      let passes = chosen (λ n. may_join arch elements members n ≡ true) score can (filter_passes (may_join arch elements members) free) number is in
      let j = joins arch elements members number passes in
      record {
        once = once-push members number legal.once j.0;
        all = All-append P members (number ∷ []) legal.all (All-cons P number [] (chosen P score can (All-filter (may_join arch elements members) P free all) number is) (All-nil P));
        fits = j.1;
      }

  legal_grown : (seed : List ℕ) (additions : ℕ) → IsLegal arch elements P seed → IsLegal arch elements P (members_after arch elements free seed additions)
  legal_grown seed zero legal = legal
  legal_grown seed (suc additions) legal = grind (arith, added, legal_grown seed additions legal)

  -- the cluster made of free BLEs is legal, if each fits alone
  pub cluster_legal : unfit_among arch elements ≡ None → All (λ number. number < length elements) free → IsLegal arch elements P (cluster_of arch elements free)
  unfolding cluster_of
  cluster_legal fit within = legal_grown (seed_of elements free) arch.cluster_size (by (first_most (input_count_at elements) free) refl)
    where
      by : (found : Option ℕ) → first_most (input_count_at elements) free ≡ found → IsLegal arch elements P (option_to_list found)
      by None is = record { once = tt; all = All-nil P; fits = grind (arith, nat_tests) }
      by (Some number) is = record {
        once = (refl, tt);
        all = All-cons P number [] (chosen P (input_count_at elements) free all number is) (All-nil P);
        fits = fits_alone arch elements number fit (chosen (λ n. n < length elements) (input_count_at elements) free within number is);
      }
