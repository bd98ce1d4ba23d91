-- Calls of the core, whatever workers have.
use Rattle.live_machine.proofs.Prelude.{◌≡◌, ℕ, ◌+◌, ◌<◌, List, [], ◌∷◌, length, map, false, Some, Ok, Err, refl, sym, ap, ◌∙◌, arith, IsSomeAnd, ⊤, length-map, map-append, MAX_ENTRIES, Resource, has, moved_resource, offset_of, Owned, routed_set, OpRefusal, NoRoom, TooManyStrips, BadWidth, IdsSpent, JournalFull as NotServedJournalFull, NoSuchTenancy as NotServedNoSuchTenancy, History, state_of, IsOwner, ListsOwnersOf, Call, CanAdmit, Happens, RefusesAdmission, Run, GiveBack, Tenant, ServiceState, with_tenancy, without_tenancy, all_here}
use Rattle.std.specs.Prelude.{true}
use Rattle.service_core.specs.declared.op_refusal.OpRefusal.TheVariants.{NoMemory, NoSuchTenancy}
use Rattle.service_core.specs.declared.not_served.NotServed.TheVariants.{NoMemory as NotServedNoMemory}
use Rattle.service_core.specs.Run.Call.{Admit, Evict, Move, Owners, Put, Take}
use Rattle.live_machine.proofs.Here.{changed_at, entry_rested, here_changed, live_and, live_before, live_is, live_none, live_rested, rested, rested_all}

same_length : (hs : List History) → length (rested_all hs) ≡ length hs
same_length hs = length-map hs rested

-- admissions
admits : (old : ServiceState) (width : ℕ) → CanAdmit old width → CanAdmit (all_here old) width
admits old width can = search (same_length, arith)

refuses : (old : ServiceState) (width : ℕ) (refusal : OpRefusal) → RefusesAdmission old width refusal → RefusesAdmission (all_here old) width refusal
refuses old width BadWidth is = is
refuses old width TooManyStrips is = is
refuses old width IdsSpent (good, few, spent) = (good, few, same_length old.histories ∙ spent)
refuses old width NoRoom (can, none) = (admits old width can, none)
refuses old width NoMemory (can, fit) = (admits old width can, fit)
refuses old width NoSuchTenancy is = is

admitted : (old : ServiceState) (width offset : ℕ) → all_here (with_tenancy old width offset) ≡ with_tenancy (all_here old) width offset
admitted old width offset = search (map-append, same_length, arith)

evicted : (old : ServiceState) (id : ℕ) → all_here (without_tenancy old id) ≡ without_tenancy (all_here old) id
evicted old id =
    let closed : History → History = λ h. record h { live = false; here = Some false } in
    ap (λ hs. record (without_tenancy old id) { histories = hs }) (changed_at old.histories id closed closed (λ h is. refl))

-- owners
owner_is : (old : ServiceState) (resource : Resource) (id : ℕ) → IsOwner old resource id → IsOwner (all_here old) resource id
owner_is old resource id is = live_and (λ h. IsSomeAnd (offset_of old.plan.strips id) (λ offset. has (map (moved_resource offset) (routed_set (state_of h))) resource ≡ true)) (λ h owns. owns) old.histories id is

owner_was : (old : ServiceState) (resource : Resource) (id : ℕ) → IsOwner (all_here old) resource id → IsOwner old resource id
owner_was old resource id is = live_before (λ h. IsSomeAnd (offset_of old.plan.strips id) (λ offset. has (map (moved_resource offset) (routed_set (state_of h))) resource ≡ true)) (λ h owns. owns) old.histories id is

pub owners_listed : (old : ServiceState) (list : List Owned) → ListsOwnersOf old list → ListsOwnersOf (all_here old) list
owners_listed old list (earlier, each) = (earlier, λ owned. (λ there. owner_is old owned.resource owned.id ((each owned).0 there), λ owns. (each owned).1 (owner_was old owned.resource owned.id owns)))

-- a call in which no step is taken or made
abbrev pub IsStill : Call → Type 0
IsStill (Take id job) = ⊥
IsStill (Put done foreign answer) = ⊥
IsStill (GiveBack job) = ⊥
IsStill call = ⊤

abbrev AreStill : List Call → Type 0
AreStill [] = ⊤
AreStill (call ∷ calls) = IsStill call × AreStill calls

pub happens_here : (old : ServiceState) (call : Call) (new : ServiceState) → IsStill call → Happens old call new → Happens (all_here old) call (all_here new)
happens_here old (Admit width (Ok given)) new still (can, id, fit, same) = (admits old width can, id ∙ ap (λ n. n + 1) (sym (same_length old.histories)), fit, ap all_here same ∙ admitted old width given.1)
happens_here old (Admit width (Err refusal)) new still (refused, same) = (refuses old width refusal refused, ap all_here same)
happens_here old (Evict id (Ok nothing)) new still (is, same) = (live_is old.histories id is, ap all_here same ∙ evicted old id)
happens_here old (Evict id (Err refusal)) new still (why, none, same) = (why, live_none old.histories id none, ap all_here same)
happens_here old (Move id offset (Ok nothing)) new still (is, parted, same) = (live_is old.histories id is, parted, ap all_here same)
happens_here old (Move id offset (Err NoSuchTenancy)) new still (none, same) = (live_none old.histories id none, ap all_here same)
happens_here old (Move id offset (Err NoRoom)) new still (is, apart, same) = (live_is old.histories id is, apart, ap all_here same)
happens_here old (Move id offset (Err NoMemory)) new still is = absurd is
happens_here old (Move id offset (Err TooManyStrips)) new still is = absurd is
happens_here old (Move id offset (Err BadWidth)) new still is = absurd is
happens_here old (Move id offset (Err IdsSpent)) new still is = absurd is
happens_here old (Tenant id command (Ok r)) new still (receipt, same) = grind (arith, here_changed, entry_rested, live_rested old.histories id)
happens_here old (Tenant id command (Err (NotServedJournalFull note))) new still (noted, full, same) = (noted, live_and (λ h. length h.entries ≡ MAX_ENTRIES) (λ h is. is) old.histories id full, ap all_here same)
happens_here old (Tenant id command (Err (NotServedNoSuchTenancy note))) new still (noted, none, same) = (noted, live_none old.histories id none, ap all_here same)
happens_here old (Tenant id command (Err NotServedNoMemory)) new still (room, same) = (live_and (λ h. length h.entries < MAX_ENTRIES) (λ h is. is) old.histories id room, ap all_here same)
happens_here old (Owners list) new still (lists, same) = (owners_listed old list lists, ap all_here same)
happens_here old (Take id job) new still is = absurd still
happens_here old (Put done foreign answer) new still is = absurd still
happens_here old (GiveBack job) new still is = absurd still

run_here : (old : ServiceState) (calls : List Call) (new : ServiceState) → AreStill calls → Run old calls new → Run (all_here old) calls (all_here new)
run_here old [] new still same = ap all_here same
run_here old (call ∷ calls) new still (mid, happens, rest) = (all_here mid, happens_here old call mid still.0 happens, run_here mid calls new still.1 rest)

pub runs_here : (old : ServiceState) (calls same : List Call) (new : ServiceState) → calls ≡ same → AreStill same → Run old calls new → Run (all_here old) calls (all_here new)
runs_here old calls same new is still runs = grind (arith, run_here)
