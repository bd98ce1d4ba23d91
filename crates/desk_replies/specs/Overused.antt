-- What is written of the overused nodes of a routing that is given up.
use Rattle.std.specs.Prelude.{ℕ, ◌≡◌, ◌⊎◌, Bool, true, false, nat_le, ◌&&◌, List, [], ◌++◌, codes, is_some, map, Option, Some, None}
use Rattle.std.specs.Option.{option_map_or}
use Rattle.std.specs.Str.{bytes_eq}
use Rattle.desk_replies.specs.Prelude.{TenancyUse, MAX_COLUMNS, crowding_text, IsCrowdingWith, Crowding, Request, DevicePlan, AnsweredLine, named_act, Act, MAX_EFFORT}
use Rattle.desk_replies.specs.Sizes.{are_sizes}
use Rattle.desk_replies.specs.Wishes.{Wish, wish_of}
use Rattle.desk_replies.specs.declared.layout_wish.Start.{Start}
use Rattle.desk_replies.specs.declared.overuse.ServedScript.{ServedScript}
use Rattle.desk_replies.specs.declared.shared_device.SharedDevice.{SharedDevice}

-- the wish has a netlist, and a start of its placing on a strip within the limits
abbrev pub is_placed : Wish → Bool
is_placed wish =
    is_some wish.netlist
    && (option_map_or (λ (start : Start). nat_le start.effort MAX_EFFORT) wish.start false && (nat_le 1 wish.columns && nat_le wish.columns MAX_COLUMNS))

-- the plan and the request are those of the wish, on a strip of the device
pub record IsPlanOf (device : SharedDevice) (wish : Wish) (plan : DevicePlan) (request : Request) : Type 0 where
  pub text : plan.text.now ≡ device.arch.now
  pub columns : plan.columns ≡ wish.columns
  pub rows : plan.rows ≡ device.rows
  pub netlist : wish.netlist ≡ Some request.netlist.now
  pub start : wish.start ≡ Some (record { seed = request.seed; effort = request.effort })

-- the crowding is that of the routing that was asked for, which is given up
pub record IsCrowdingFor (device : SharedDevice) (wish : Wish) (crowding : Crowding) : Type 0 where
  pub plan : DevicePlan
  pub request : Request
  pub of : IsPlanOf device wish plan request
  pub found : IsCrowdingWith plan request device.tracks (Some crowding)

-- the name before the overused nodes
abbrev pub crowded_text : List ℕ → Crowding → List ℕ
crowded_text name crowding = (name ++ codes " ") ++ crowding_text crowding

-- the name of a netlist that was changed
abbrev pub changed_text : List ℕ → List ℕ
changed_text name = name ++ codes " nodes left overused: not known, since its netlist was changed\n"

-- a text of the crowding of the routing that was asked for, or nothing
abbrev pub IsCrowded : SharedDevice → Wish → List ℕ → List ℕ → Type 0
IsCrowded device wish name text = (text ≡ []) ⊎ ((crowding : Crowding) × IsCrowdingFor device wish crowding × (text ≡ crowded_text name crowding))

abbrev pub IsOveruseBy : Bool → SharedDevice → Wish → List ℕ → List ℕ → Type 0
IsOveruseBy true device wish name text = IsCrowded device wish name text
IsOveruseBy false device wish name text = text ≡ changed_text name

-- Where the routing of a name with that wish is overused. Nothing is written if the routing is not
-- given up, if memory ran out, or if the device is not known.
abbrev pub IsOveruseOn : Option SharedDevice → Wish → List ℕ → List ℕ → Type 0
IsOveruseOn (Some device) wish name text = IsOveruseBy (is_placed wish) device wish name text
IsOveruseOn None wish name text = text ≡ []

-- that of a name after these acts with their replies
abbrev pub IsOveruse : Option SharedDevice → List (Act (List ℕ)) → List AnsweredLine → List ℕ → List ℕ → Type 0
IsOveruse device acts replies name text = IsOveruseOn device (wish_of name acts replies) name text

-- the crowding that is known of a name's routing after these acts
abbrev pub IsCrowdingOf : Option SharedDevice → List (Act (List ℕ)) → List AnsweredLine → List ℕ → Crowding → Type 0
IsCrowdingOf (Some device) acts replies name crowding = IsCrowdingFor device (wish_of name acts replies) crowding
IsCrowdingOf None acts replies name crowding = ⊥

-- that of a tenancy in a report, if it is Unrouted
abbrev pub IsOveruseIf : Bool → Option SharedDevice → List (Act (List ℕ)) → List AnsweredLine → List ℕ → List ℕ → Type 0
IsOveruseIf true device acts replies name text = IsOveruse device acts replies name text
IsOveruseIf false device acts replies name text = text ≡ []

abbrev pub IsOveruseOf : Option SharedDevice → List (Act (List ℕ)) → List AnsweredLine → TenancyUse → List ℕ → Type 0
IsOveruseOf device acts replies uses text = IsOveruseIf (bytes_eq uses.tenancy.state.now (codes "Unrouted")) device acts replies uses.tenancy.name.now text

-- private: that of a name, and that of a tenancy in a report, by a script that was served
abbrev pub IsOveruseIn : ServedScript → List ℕ → List ℕ → Type 0
IsOveruseIn served = IsOveruse served.device (map named_act served.acts.now) served.replies.now

abbrev pub IsReportedOveruseIn : ServedScript → TenancyUse → List ℕ → Type 0
IsReportedOveruseIn served = IsOveruseOf served.device (map named_act served.acts.now) served.replies.now

-- the device has that architecture, and these rows and tracks; there is none exactly if these are
-- not the sizes of one
abbrev pub IsDevice : List ℕ → Option ℕ → Option ℕ → Option SharedDevice → Type 0
IsDevice arch rows tracks (Some device) = (device.arch.now ≡ arch) × (rows ≡ Some device.rows) × (tracks ≡ Some device.tracks)
IsDevice arch rows tracks None = are_sizes rows tracks ≡ false
