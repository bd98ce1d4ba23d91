-- What a placing has made at its end.
use Rattle.one_user.proofs.Prelude.{ℕ, ◌≡◌, true, Result, Ok, refl, ap, ◌∙◌, arith, circuit_of, Circuit, BlifFault, end_value, is_last, is_whole_value, job_value, pass_count, placing_at, step_count, value_of, placing_whole, step_count_is, is_past_last, Task, placing_of, AreAllPasses}
use Rattle.job_state.specs.declared.sources.JobKind.TheVariants.{Placing as PlacingJob}
use Rattle.job_state.specs.declared.work.Work.TheVariants.{Placed}

module _ (task : Task) (circuit : Circuit) (said : circuit_of task.text task.arch.lut_size ≡ Ok circuit) where
  last_is : (steps : ℕ) → is_last (placing_of task) steps ≡ is_past_last task.strip steps
  last_is steps = ap (λ (c : Result Circuit BlifFault). is_whole_value (value_of (placing_of task) c steps)) said ∙ placing_whole (placing_of task) circuit PlacingJob steps refl

  made : (steps : ℕ) → is_past_last task.strip steps ≡ true → job_value (placing_of task) steps ≡ Ok (Placed (placing_at (placing_of task) circuit steps))
  made steps past = grind arith

  pub placing_ended : AreAllPasses task.strip (pass_count task.strip) → end_value (placing_of task) ≡ Ok (Placed (placing_at (placing_of task) circuit (pass_count task.strip)))
  placing_ended all =
      let passes = pass_count task.strip in
      let over : is_last (placing_of task) passes ≡ true = last_is passes ∙ all.is_past in
      let count : step_count (placing_of task) ≡ passes = step_count_is (placing_of task) passes (passes, omega (arith, all.few), over) (λ fewer less. last_is fewer ∙ all.before fewer less) over in
      ap (λ steps. job_value (placing_of task) steps) count ∙ made passes all.is_past
