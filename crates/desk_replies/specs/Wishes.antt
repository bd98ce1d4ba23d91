-- What was asked for the layout that a name has, by the acts of a script and their replies.
use Rattle.std.specs.Prelude.{ℕ, List, [], ◌∷◌, Option, Some, None, option_map, if◌then◌else◌}
use Rattle.std.specs.Str.{bytes_eq}
use Rattle.desk_replies.specs.Prelude.{AnsweredLine, is_refusal, Act, Operator, Session, OperatorLine, Admit, Evict, SessionLine, Command, Upload, Change, Pack, Place, Withdraw}
use Rattle.tenant_slot.specs.declared.command.Command.{Command as TenantCommand}
use Rattle.desk_replies.specs.declared.layout_wish.LayoutWish.{LayoutWish}
use Rattle.desk_replies.specs.declared.layout_wish.Start.{Start}

-- a strip's columns, its netlist if that was uploaded, and how it is placed if it was placed
pub record Wish : Type 0 where
  pub columns : ℕ
  pub netlist : Option (List ℕ)
  pub start : Option Start

abbrev pub nothing_on : ℕ → Wish
nothing_on columns = record { columns = columns; netlist = None; start = None }

-- another netlist, which is not placed yet. The places of a changed netlist depend on those that
-- were there before, so it counts as none
abbrev pub with_netlist : Option (List ℕ) → Wish → Wish
with_netlist netlist wish = record wish { netlist = netlist; start = None }

-- after a command of the name that is not refused
abbrev pub after_command : TenantCommand → Wish → Wish
after_command (Upload text) wish = with_netlist (Some text) wish
after_command (Change text) wish = with_netlist None wish
after_command Withdraw wish = with_netlist None wish
after_command Pack wish = with_netlist wish.netlist wish
after_command (Place seed effort) wish = record wish { start = Some (record { seed = seed; effort = effort }) }
after_command other wish = wish

-- an admission begins with an empty strip, and an eviction leaves none
abbrev pub after_operator : List ℕ → OperatorLine (List ℕ) → Wish → Wish
after_operator name (Admit own columns) wish = if bytes_eq own name then nothing_on columns else wish
after_operator name (Evict own) wish = if bytes_eq own name then nothing_on 0 else wish
after_operator name line wish = wish

abbrev pub after_line : SessionLine → Wish → Wish
after_line (Command command) wish = after_command command wish
after_line line wish = wish

abbrev pub after_act : List ℕ → Act (List ℕ) → Wish → Wish
after_act name (Operator line) wish = after_operator name line wish
after_act name (Session own line) wish = if bytes_eq own name then after_line line wish else wish

-- a line that is refused changes nothing
abbrev pub wish_after : List ℕ → Act (List ℕ) → List ℕ → Wish → Wish
wish_after name act reply wish = if is_refusal reply then wish else after_act name act wish

-- what was asked after these acts, one after another
abbrev pub wish_from : List ℕ → Wish → List (Act (List ℕ)) → List AnsweredLine → Wish
wish_from name wish [] replies = wish
wish_from name wish (act ∷ acts) [] = wish
wish_from name wish (act ∷ acts) (line ∷ replies) = wish_from name (wish_after name act line.reply wish) acts replies

abbrev pub wish_of : List ℕ → List (Act (List ℕ)) → List AnsweredLine → Wish
wish_of name acts replies = wish_from name (nothing_on 0) acts replies

-- the value of a wish
abbrev pub wish_now : LayoutWish → Wish
wish_now wish = record { columns = wish.columns; netlist = option_map (λ text. text.now) wish.netlist; start = wish.start }
