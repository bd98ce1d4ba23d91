-- What a slot occupies of its strip.
use Rattle.tenant_slot.proofs.Prelude.{ℕ, ◌≡◌, [], Option, arith, Arch, Strip, JobState, resources_of, Content, Routed, Netlist, Running, Standing, held_in, routed_set, State, IsSlot, name_of, seen_state}

-- if it has routes
pub routed_is : (id : ℕ) (arch : Arch) (strip : Strip) (standing : Standing) (entries : ℕ) (netlist : Netlist) (packing placing routing : JobState) → standing.content ≡ Routed netlist packing placing routing →
    IsSlot id arch strip standing entries → routed_set (seen_state arch strip standing entries) ≡ resources_of routing.step.sources
unfolding routed_set
routed_is id arch strip standing entries netlist packing placing routing is slot = grind arith

none_in : (content : Content) (running : Option Running) (state : State) → ((netlist : Netlist) (packing placing routing : JobState) → content ≡ Routed netlist packing placing routing → ⊥) → held_in (name_of content running) state ≡ []
none_in content running state other = grind arith

-- if it has no routes
pub none_held : (arch : Arch) (strip : Strip) (standing : Standing) (entries : ℕ) → ((netlist : Netlist) (packing placing routing : JobState) → standing.content ≡ Routed netlist packing placing routing → ⊥) →
    routed_set (seen_state arch strip standing entries) ≡ []
unfolding routed_set
none_held arch strip standing entries other = none_in standing.content standing.running (seen_state arch strip standing entries) other
