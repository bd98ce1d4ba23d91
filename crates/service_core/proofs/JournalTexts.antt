-- The texts of a journal with one more entry.
use Rattle.service_core.proofs.Prelude.{◌≡◌, ◌∙◌, ℕ, ◌+◌, ◌≤◌, List, [], ◌∷◌, ◌++◌, length, Some, inl, inr, subst, arith, All, Contains, slice_get, All-append, All-contains_itself, All-get_or, All-nil, All-push, All-weaker, Contains-append_left, Contains-append_right, sum_by-append, get_or_from_slice_get, slice_get_within, all_back, Command as Asked, Reply, Entry, Adds, AddsBytes, CountAs, FitInto, all_bytes, bytes_of, command_texts, entry_texts, event_texts, reply_texts}
use Rattle.tenant_slot.specs.declared.command.Command.{Command}

-- one more entry has its own texts
all_bytes-push : (entries : List Entry) (e : Entry) → all_bytes (entries ++ e ∷ []) ≡ all_bytes entries + bytes_of (entry_texts e)
all_bytes-push entries e = sum_by-append (λ (entry : Entry). bytes_of (entry_texts entry)) entries (e ∷ []) ∙ omega arith

-- texts that fit into some bytes fit into more
pub FitInto-more : (held limit : ℕ) (entries : List Entry) → FitInto held entries → held ≤ limit → FitInto limit entries
FitInto-more held limit entries fits le = record { texts = fits.texts; total = omega (arith, fits.total); each = fits.each }

-- an entry whose texts are there, or among some that are added
FitInto-with : (held bytes : ℕ) (entries : List Entry) (e : Entry) (own : List (List ℕ)) (fits : FitInto held entries) → bytes_of own ≤ bytes → All (Contains (fits.texts ++ own)) (entry_texts e) → FitInto (held + bytes) (entries ++ e ∷ [])
FitInto-with held bytes entries e own fits few has =
    let P : Entry → Type 0 = λ entry. All (Contains (fits.texts ++ own)) (entry_texts entry) in
    let old : All P entries = All-weaker (λ (entry : Entry). All (Contains fits.texts) (entry_texts entry)) P (λ entry h. All-weaker (Contains fits.texts) (Contains (fits.texts ++ own)) (λ text there. Contains-append_left fits.texts own text there) (entry_texts entry) h) entries fits.each in
    record {
      texts = fits.texts ++ own;
      total = omega (arith, sum_by-append length fits.texts own, fits.total);
      each = All-push P entries e old has;
    }

-- an entry without texts
pub CountAs-push : (held : ℕ) (entries : List Entry) (e : Entry) → CountAs held entries → entry_texts e ≡ [] → CountAs held (entries ++ e ∷ [])
CountAs-push held entries e counted none =
    let fits = counted.fits in
    let P : Entry → Type 0 = λ entry. All (Contains fits.texts) (entry_texts entry) in
    record {
      fits = record { texts = fits.texts; total = fits.total; each = All-push P entries e fits.each (rw none (All-nil (Contains fits.texts))) };
      most = omega (arith, counted.most, all_bytes-push entries e);
    }

-- texts contain themselves
own_there : (before own : List (List ℕ)) → All (Contains (before ++ own)) own
own_there before own = All-weaker (Contains own) (Contains (before ++ own)) (λ text there. Contains-append_right before own text there) own (All-contains_itself own)

-- what holds of each entry holds of the one at that index
all_at : (P : Entry → Type 0) (entries : List Entry) (k : ℕ) (entry : Entry) → All P entries → slice_get entries k ≡ Some entry → P entry
all_at P entries k entry all there = subst P (get_or_from_slice_get entries k entry entry there) (All-get_or P entries k entry (slice_get_within entries k entry there) all)

-- a command and its reply, whose text is counted unless it is there
fits_reply : (entries : List Entry) (command : Command) (reply : Reply) (added : ℕ) → AddsBytes entries reply added → (held : ℕ) → FitInto held entries → FitInto (held + (bytes_of (command_texts command) + added)) (entries ++ record { event = Asked command; reply = reply } ∷ [])
fits_reply entries command reply added (inl is) held fits =
    let e : Entry = record { event = Asked command; reply = reply } in
    FitInto-with held (bytes_of (command_texts command) + added) entries e (command_texts command ++ reply_texts reply) fits (omega (arith, is, sum_by-append length (command_texts command) (reply_texts reply))) (own_there fits.texts (command_texts command ++ reply_texts reply))
fits_reply entries command reply added (inr again) held fits =
    let e : Entry = record { event = Asked command; reply = reply } in
    let found : Entry = again.1.1 in
    let all : All (Contains fits.texts) (entry_texts found) = all_at (λ (entry : Entry). All (Contains fits.texts) (entry_texts entry)) entries again.1.0 found fits.each again.1.2 in
    let texts : All (Contains fits.texts) (reply_texts reply) = subst (λ r. All (Contains fits.texts) (reply_texts r)) again.1.3 (all_back (Contains fits.texts) (event_texts found.event) (reply_texts found.reply) all) in
    let old : All (Contains (fits.texts ++ command_texts command)) (reply_texts reply) = All-weaker (Contains fits.texts) (Contains (fits.texts ++ command_texts command)) (λ text there. Contains-append_left fits.texts (command_texts command) text there) (reply_texts reply) texts in
    FitInto-with held (bytes_of (command_texts command) + added) entries e (command_texts command) fits (omega arith) (All-append (Contains (fits.texts ++ command_texts command)) (command_texts command) (reply_texts reply) (own_there fits.texts (command_texts command)) old)

pub Adds-reply : (entries : List Entry) (command : Command) (reply : Reply) (added : ℕ) → AddsBytes entries reply added → Adds entries command reply (bytes_of (command_texts command) + added)
Adds-reply entries command reply added adds held counted = grind (arith, fits_reply, all_bytes-push)
