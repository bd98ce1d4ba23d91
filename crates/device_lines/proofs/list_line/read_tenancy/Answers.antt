use Rattle.device_lines.proofs.Prelude.{refl, sym, ◌∙◌, listed_in}
use Rattle.device_lines.proofs.StepLemmas.{is_nameless, is_outside, is_shown, is_stateless}
use Rattle.device_lines.proofs.list_line.read_tenancy.Goals as goal

pub returns-in_err-id : goal.returns-in_err-id
unfolding listed_in
returns-in_err-id c = rw (c.from_residual.ensures, ← c.in_err-id.ensures) refl

pub returns-in_err-name : goal.returns-in_err-name
unfolding listed_in
returns-in_err-name c = rw (c.from_residual-in_err-name.ensures, ← c.in_ok-id.ensures, ← c.in_err-name.ensures) refl

pub returns-in_err-offset : goal.returns-in_err-offset
unfolding listed_in
returns-in_err-offset c = rw (c.from_residual-in_err-offset.ensures, ← c.in_ok-id.ensures, ← c.in_ok-name.ensures, ← c.in_err-offset.ensures) refl

pub returns-in_err-width : goal.returns-in_err-width
unfolding listed_in
returns-in_err-width c = rw (c.from_residual-in_err-width.ensures, ← c.in_ok-id.ensures, ← c.in_ok-name.ensures, ← c.in_ok-offset.ensures, ← c.in_err-width.ensures) refl

pub returns-then-not-is_name : goal.returns-then-not-is_name
unfolding listed_in
returns-then-not-is_name c = rw (← c.in_ok-id.ensures, ← c.in_ok-name.ensures, ← c.in_ok-offset.ensures, ← c.in_ok-width.ensures) (is_nameless c.args.size (record { id = c.in_ok-id.id; name = c.in_ok-name.name.now; offset = c.in_ok-offset.offset; width = c.in_ok-width.width; state = c.in_ok-width.state.now }) (sym c.if-not-is_name.true ∙ c.is_name.ensures.exact))

pub returns-then-not-is_state : goal.returns-then-not-is_state
unfolding listed_in
returns-then-not-is_state c = rw (← c.in_ok-id.ensures, ← c.in_ok-name.ensures, ← c.in_ok-offset.ensures, ← c.in_ok-width.ensures) (is_stateless c.args.size (record { id = c.in_ok-id.id; name = c.in_ok-name.name.now; offset = c.in_ok-offset.offset; width = c.in_ok-width.width; state = c.in_ok-width.state.now }) (sym c.if-not-is_name.false ∙ c.is_name.ensures.exact) (sym c.if-not-is_state.true ∙ c.is_state.ensures))

pub returns-then-not-is_on_device : goal.returns-then-not-is_on_device
unfolding listed_in
returns-then-not-is_on_device c = rw (← c.in_ok-id.ensures, ← c.in_ok-name.ensures, ← c.in_ok-offset.ensures, ← c.in_ok-width.ensures) (is_outside c.args.size (record { id = c.in_ok-id.id; name = c.in_ok-name.name.now; offset = c.in_ok-offset.offset; width = c.in_ok-width.width; state = c.in_ok-width.state.now }) (sym c.if-not-is_name.false ∙ c.is_name.ensures.exact) (sym c.if-not-is_state.false ∙ c.is_state.ensures) (sym c.if-not-is_on_device.true ∙ c.is_on_device.ensures.exact))

pub returns : goal.returns
unfolding listed_in
returns c = rw (← c.in_ok-id.ensures, ← c.in_ok-name.ensures, ← c.in_ok-offset.ensures, ← c.in_ok-width.ensures) (is_shown c.args.size (record { id = c.in_ok-id.id; name = c.in_ok-name.name.now; offset = c.in_ok-offset.offset; width = c.in_ok-width.width; state = c.in_ok-width.state.now }) (sym c.if-not-is_name.false ∙ c.is_name.ensures.exact) (sym c.if-not-is_state.false ∙ c.is_state.ensures) (sym c.if-not-is_on_device.false ∙ c.is_on_device.ensures.exact))
