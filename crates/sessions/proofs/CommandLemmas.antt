-- A session's answer to a command, from the core's answer.
use Rattle.sessions.proofs.Prelude.{◌≡◌, ℕ, [], ◌∷◌, Result, refl, NotServed, Receipted, IsServed, Basis, Run, Tenant, ServiceState, SessionLine, Command, Served, IsAnswer}
use Rattle.tenant_slot.specs.declared.command.Command.{Command as TenantCommand}

pub command_runs : (old new : ServiceState) (id : ℕ) (command : TenantCommand) (served : Result Receipted NotServed) → IsServed old id command served new → Run old (Tenant id command served ∷ []) new
command_runs old new id command served serves = (new, serves, refl)

pub command_asks : (graph : Basis) (old new : ServiceState) (id : ℕ) (line : SessionLine) (command : TenantCommand) (served : Result Receipted NotServed) → line ≡ Command command → IsServed old id command served new → IsAnswer graph old id line (Served served) new
command_asks graph old new id line command served is serves = rw is (Tenant id command served ∷ [], (served, refl, refl), command_runs old new id command served serves, λ own. tt)
