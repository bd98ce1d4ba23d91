-- Held jobs, by their numbers.
use Rattle.operator.proofs.Prelude.{◌≡◌, ℕ, zero, suc, ◌+◌, ◌-◌, ◌<◌, ◌≤◌, List, [], ◌∷◌, ◌++◌, length, get_or, Option, None, append_assoc, refl, sym, ap, arith, option_map, reverse, filter_map, filter_map-append, reverse-append, set, nat_tests, JobState, Call, Run, GiveBack, ServiceState, Run-append, HeldList, job_at, without_job}

pub job_at-zero : (js : HeldList) → job_at js 0 ≡ None
job_at-zero [] = refl
job_at-zero (j ∷ js) = job_at-zero js

pub without_job-zero : (js : HeldList) → without_job js 0 ≡ js
without_job-zero [] = refl
without_job-zero (j ∷ js) = ap (λ rest. j ∷ rest) (without_job-zero js)

pub job_at-past : (js : HeldList) (number : ℕ) → length js < number → job_at js number ≡ None
job_at-past [] number past = refl
job_at-past (j ∷ js) number past = grind (arith, nat_tests, job_at-past js (number - 1) (omega arith))

pub without_job-past : (js : HeldList) (number : ℕ) → length js < number → without_job js number ≡ js
without_job-past [] number past = refl
without_job-past (j ∷ js) number past = grind (arith, nat_tests, without_job-past js (number - 1) (omega arith))

job_at-next : (js : HeldList) (i : ℕ) (d : Option JobState) → i < length js → job_at js (i + 1) ≡ get_or js i d
job_at-next [] i d lt = absurd (omega arith)
job_at-next (j ∷ js) zero d lt = refl
job_at-next (j ∷ js) (suc i) d lt = grind (arith, nat_tests, job_at-next js i d (omega arith))

without_job-next : (js : HeldList) (i : ℕ) → i < length js → without_job js (i + 1) ≡ set js i None
without_job-next [] i lt = absurd (omega arith)
without_job-next (j ∷ js) zero lt = refl
without_job-next (j ∷ js) (suc i) lt = grind (arith, nat_tests, without_job-next js i (omega arith))

pub job_at-at : (js : HeldList) (number : ℕ) (d : Option JobState) → 0 < number → number ≤ length js → job_at js number ≡ get_or js (number - 1) d
job_at-at js number d pos le = let e : number - 1 + 1 ≡ number = omega arith in rw e at (job_at-next js (number - 1) d (omega arith))

pub without_job-at : (js : HeldList) (number : ℕ) → 0 < number → number ≤ length js → set js (number - 1) None ≡ without_job js number
without_job-at js number pos le = let e : number - 1 + 1 ≡ number = omega arith in sym (rw e at (without_job-next js (number - 1) (omega arith)))

abbrev pub given : HeldList → List Call
given jobs = filter_map (option_map GiveBack) jobs

-- one more job is given back, the last of the remaining ones
pub given_more : (start old new : ServiceState) (all left rest done : HeldList) (held : Option JobState) → all ≡ left ++ reverse done → left ≡ rest ++ held ∷ [] → Run start (given done) old → Run old (given (held ∷ [])) new →
    (more : HeldList) × (all ≡ rest ++ reverse more) × Run start (given more) new
given_more start old new all left rest done held parted last runs next = grind (arith, reverse-append, filter_map-append, Run-append, append_assoc rest (held ∷ []) (reverse done), reverse-append done (held ∷ []), filter_map-append (option_map GiveBack) done (held ∷ []), Run-append start (given done) old (given (held ∷ [])) new runs next)

pub ruleset by_number = (job_at-zero, without_job-zero, job_at-past, without_job-past, job_at-at, without_job-at)
