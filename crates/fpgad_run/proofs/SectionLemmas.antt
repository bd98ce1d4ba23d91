-- Sections, kept as names and texts.
use Rattle.fpgad_run.proofs.Prelude.{◌≡◌, ℕ, ◌<◌, ◌≤◌, List, [], ◌∷◌, ◌++◌, true, false, Some, Result, length-append, suc, zero, length, get_or, refl, sym, ap, ◌∙◌, arith, is_ok, map, IfOk, OnOk, length-map, bytes_eq, set, number_of, with_name, number_of-first, number_of-later, with_name-first, with_name-later, SessionReplies, Section, section_of, with_text, MemorySink, AllocError, Failed, Writes, sink_text, named_sections}
use Rattle.std.specs.Prelude.{slice_get}

abbrev pub Text : Type 0
Text = MemorySink

-- a section that is not the first
with_text-later : (s : Section) (sections : List Section) (name text : List ℕ) → bytes_eq name s.name ≡ false → with_text (s ∷ sections) name text ≡ s ∷ with_text sections name text
with_text-later s sections name text e = rw e refl

with_text-first : (s : Section) (sections : List Section) (name text : List ℕ) → bytes_eq name s.name ≡ true → with_text (s ∷ sections) name text ≡ record s { text = s.text ++ text } ∷ sections
with_text-first s sections name text e = rw e refl

abbrev pub section : List ℕ → List ℕ → Section
section name text = record { name = name; text = text }

-- a name that has a section
pub zipped-set : (names : List (List ℕ)) (texts : List Text) (name text : List ℕ) (k : ℕ) (v : Text) → k ≡ number_of names name → k < length texts → length texts ≡ length names →
    sink_text v ≡ sink_text (get_or texts k v) ++ text → named_sections (with_name names name) (set texts k v) ≡ with_text (named_sections names texts) name text
zipped-set [] [] name text k v at within same told = absurd (omega arith)
zipped-set [] (t ∷ texts) name text k v at within same told = absurd (omega arith)
zipped-set (n ∷ names) [] name text k v at within same told = absurd (omega arith)
zipped-set (n ∷ names) (t ∷ texts) name text zero v at within same told =
    elim (bytes_eq name n) as (λ b. bytes_eq name n ≡ b → named_sections (with_name (n ∷ names) name) (v ∷ texts) ≡ with_text (named_sections (n ∷ names) (t ∷ texts)) name text) [
      | true ↦ λ e. ap (λ ns. named_sections ns (v ∷ texts)) (with_name-first n names name e) ∙ ap (λ i. section n i ∷ named_sections names texts) told
          ∙ sym (with_text-first (section n (sink_text t)) (named_sections names texts) name text e)
      | false ↦ λ e. let later = number_of-later n names name e in absurd (omega (arith, at, later))
    ] refl
zipped-set (n ∷ names) (t ∷ texts) name text (suc k) v at within same told =
    elim (bytes_eq name n) as (λ b. bytes_eq name n ≡ b → named_sections (with_name (n ∷ names) name) (t ∷ set texts k v) ≡ with_text (named_sections (n ∷ names) (t ∷ texts)) name text) [
      | true ↦ λ e. let first = number_of-first n names name e in absurd (omega (arith, at, first))
      | false ↦ λ e. let later = number_of-later n names name e in
          ap (λ ns. named_sections ns (t ∷ set texts k v)) (with_name-later n names name e)
          ∙ ap (λ ss. section n (sink_text t) ∷ ss) (zipped-set names texts name text k v (omega (arith, at, later)) (omega arith) (omega arith) told)
          ∙ sym (with_text-later (section n (sink_text t)) (named_sections names texts) name text e)
    ] refl

-- and a name that has no section
pub zipped-push : (names : List (List ℕ)) (texts : List Text) (name : List ℕ) (v : Text) → length texts ≡ length names → length texts ≤ number_of names name →
    named_sections (with_name names name) (texts ++ v ∷ []) ≡ with_text (named_sections names texts) name (sink_text v)
zipped-push [] [] name v same at = refl
zipped-push [] (t ∷ texts) name v same at = absurd (omega arith)
zipped-push (n ∷ names) [] name v same at = absurd (omega arith)
zipped-push (n ∷ names) (t ∷ texts) name v same at =
    elim (bytes_eq name n) as (λ b. bytes_eq name n ≡ b → named_sections (with_name (n ∷ names) name) (t ∷ (texts ++ v ∷ [])) ≡ with_text (named_sections (n ∷ names) (t ∷ texts)) name (sink_text v)) [
      | true ↦ λ e. let first = number_of-first n names name e in absurd (omega (arith, at, first))
      | false ↦ λ e. let later = number_of-later n names name e in
          ap (λ ns. named_sections ns (t ∷ (texts ++ v ∷ []))) (with_name-later n names name e)
          ∙ ap (λ ss. section n (sink_text t) ∷ ss) (zipped-push names texts name v (omega arith) (omega (arith, at, later)))
          ∙ sym (with_text-later (section n (sink_text t)) (named_sections names texts) name (sink_text v) e)
    ] refl

-- the name at an index is among the names, so their number doesn't change
pub length-found : (names : List (List ℕ)) (name : List ℕ) → number_of names name < length names → length (with_name names name) ≡ length names
length-found [] name h = absurd (omega arith)
length-found (n ∷ names) name h =
    elim (bytes_eq name n) as (λ b. bytes_eq name n ≡ b → length (with_name (n ∷ names) name) ≡ length (n ∷ names)) [
      | true ↦ λ e. ap length (with_name-first n names name e)
      | false ↦ λ e. let later = number_of-later n names name e in ap length (with_name-later n names name e) ∙ ap suc (length-found names name (omega (arith, h, later)))
    ] refl

-- without texts there is no section
pub no_texts : (names : List (List ℕ)) → named_sections names [] ≡ []
no_texts [] = refl
no_texts (n ∷ names) = refl

-- one more text, with the next name
pub named_push : (names : List (List ℕ)) (texts : List Text) (text : Text) (name : List ℕ) → length texts < length names → slice_get names (length texts) ≡ Some name →
    named_sections names (texts ++ text ∷ []) ≡ named_sections names texts ++ section name (sink_text text) ∷ []
named_push [] texts text name within at = absurd (omega arith)
named_push (n ∷ names) [] text name within at = grind (arith, no_texts)
named_push (n ∷ names) (t ∷ texts) text name within at = ap (λ ss. section n (sink_text t) ∷ ss) (named_push names texts text name (omega arith) at)

-- each text has a section
length-named : (names : List (List ℕ)) (texts : List Text) → length texts ≤ length names → length (named_sections names texts) ≡ length texts
length-named [] [] fits = refl
length-named [] (t ∷ texts) fits = absurd (omega arith)
length-named (n ∷ names) [] fits = refl
length-named (n ∷ names) (t ∷ texts) fits = ap suc (length-named names texts (omega arith))

pub count_so_far : (names : List (List ℕ)) (texts : List Text) (replies : List SessionReplies) → map section_of replies ≡ named_sections names texts → length texts ≤ length names → length replies ≡ length texts
count_so_far names texts replies are fits = sym (length-map replies section_of) ∙ (ap length are ∙ length-named names texts fits)

pub on_value : {E A : Type 0} {P Q : A → Type 0} (r : Result A E) → ((a : A) → P a → Q a) → IfOk r P → IfOk r Q
on_value r f p = grind arith

-- the answer is written if the sink had enough memory
pub on_told : {P : Type 0} (r : Result (Unit {0}) AllocError) (w : Result (Unit {0}) Failed) (old new : MemorySink) (text : List ℕ) → is_ok r ≡ is_ok w →
    Writes (λ (s : MemorySink). Some (sink_text s)) (λ (s : MemorySink). s.failed) old new text w → (sink_text new ≡ sink_text old ++ text → P) → OnOk r P
on_told r w old new text same writes f = grind arith

pub is_told : (w : Result (Unit {0}) Failed) (old new : MemorySink) (text : List ℕ) → is_ok w ≡ true →
    Writes (λ (s : MemorySink). Some (sink_text s)) (λ (s : MemorySink). s.failed) old new text w → sink_text new ≡ sink_text old ++ text
is_told w old new text same writes = grind arith

-- a new name makes one more
pub length-new : (names : List (List ℕ)) (name : List ℕ) (k : ℕ) → length names ≤ k → k < length (with_name names name) → length (with_name names name) ≡ suc (length names)
length-new names name k past within = grind (arith, length-append)

pub held_as : (sink : MemorySink) (bytes : List ℕ) → Some (sink_text sink) ≡ Some bytes → bytes ≡ sink_text sink
held_as sink bytes same = cc
