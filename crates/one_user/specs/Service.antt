-- How the files relate to the service: by its main theorem each tenancy is in the state of the
-- service for a single user and gets that service's replies, on any device and beside any others.
use Rattle.std.specs.Prelude.{◌≡◌, ℕ, []}
use Rattle.one_user.specs.Prelude.{State, answer_to, PlaceFile, RouteFile, Command as Asked, Route as RoutesFile, File}
use Rattle.tenant_slot.specs.declared.command.Command.TheVariants.{Net}
use Rattle.tenant_slot.specs.declared.reply.FileKind.TheVariants.{Net as NetFile, Place as PlacesFile}
use Rattle.tenant_slot.specs.declared.reply.StateName.TheVariants.{Routed}
use Rattle.one_user.specs.Outcomes.{Task}
use Rattle.one_user.specs.declared.outcome.Files.{Files}

-- a tenancy has the netlist routed, on a strip of the device's size, placed with that seed and
-- effort without kept places
pub record HasRouted (task : Task) (state : State) : Type 0 where
  pub name : state.name ≡ Routed
  pub arch : state.arch ≡ task.arch
  pub strip : state.strip ≡ task.strip
  pub text : state.text ≡ task.text
  pub kept : state.kept ≡ []
  pub seed : state.seed ≡ task.seed
  pub effort : state.effort ≡ task.effort

-- its replies to the commands for the files are these files
pub record AreTold (files : Files) (state : State) : Type 0 where
  pub net : (answer_to state (Asked Net)).1 ≡ File NetFile files.net
  pub places : (answer_to state (Asked PlaceFile)).1 ≡ File PlacesFile files.places
  pub routes : (answer_to state (Asked RouteFile)).1 ≡ File RoutesFile files.routes
