-- Reading the words after a pin's class one by one.
use Rattle.arch_file.proofs.Prelude.{◌≡◌, ◌∙◌, ℕ, List, [], ◌∷◌, ◌++◌, Bool, true, false, ◌&&◌, ◌||◌, not, refl, ap, sym, codes, list_all, bytes_eq, or-false, same_from_decides, and_push, or_push, bytes_eq-Decides, are_distinct, has, is_side_word, Shows, SideWords}

pub bytes_eq_comm : (xs ys : List ℕ) → bytes_eq xs ys ≡ bytes_eq ys xs
bytes_eq_comm xs ys =
    same_from_decides {P = xs ≡ ys} (bytes_eq xs ys) (bytes_eq ys xs) (bytes_eq-Decides xs ys) ((λ t. sym ((bytes_eq-Decides ys xs).0 t)), (λ e. (bytes_eq-Decides ys xs).1 (sym e)))

pub has-push : (word : List ℕ) (words : List (List ℕ)) (more : List ℕ) → has word (words ++ more ∷ []) ≡ (has word words || bytes_eq more word)
has-push word words more = or_push (has word) (λ other. bytes_eq other word) refl (λ _ _. refl) words more

-- the tests of a longer list, in another order
distinct_shuffle : (h b d g : Bool) → (not (h || b) && (d && not g)) ≡ ((not h && d) && not (b || g))
distinct_shuffle true b d g = refl
distinct_shuffle false true true g = refl
distinct_shuffle false true false g = refl
distinct_shuffle false false true g = refl
distinct_shuffle false false false g = refl

pub are_distinct-push : (words : List (List ℕ)) (more : List ℕ) → are_distinct (words ++ more ∷ []) ≡ (are_distinct words && not (has more words))
are_distinct-push [] more = refl
are_distinct-push (word ∷ words) more =
    rw (has-push word words more, are_distinct-push words more, bytes_eq_comm more word) (distinct_shuffle (has word words) (bytes_eq word more) (are_distinct words) (has more words))

lawful_shuffle : (a d s h : Bool) → ((a && s) && (d && not h)) ≡ ((a && d) && (s && not h))
lawful_shuffle true true s h = refl
lawful_shuffle true false true h = refl
lawful_shuffle true false false h = refl
lawful_shuffle false d s h = refl

pub lawful-push : (words : List (List ℕ)) (more : List ℕ) → (list_all is_side_word (words ++ more ∷ []) && are_distinct (words ++ more ∷ [])) ≡ ((list_all is_side_word words && are_distinct words) && (is_side_word more && not (has more words)))
lawful-push words more =
    rw (and_push (list_all is_side_word) is_side_word refl (λ _ _. refl) words more, are_distinct-push words more) (lawful_shuffle (list_all is_side_word words) (are_distinct words) (is_side_word more) (has more words))

-- the effect of one more word
pub record Takes (read next : SideWords) (word : List ℕ) (stood : Bool) : Type 0 where
  pub top : next.sides.top ≡ (read.sides.top || bytes_eq word (codes "top"))
  pub bottom : next.sides.bottom ≡ (read.sides.bottom || bytes_eq word (codes "bottom"))
  pub left : next.sides.left ≡ (read.sides.left || bytes_eq word (codes "left"))
  pub right : next.sides.right ≡ (read.sides.right || bytes_eq word (codes "right"))
  pub global : next.is_global ≡ (read.is_global || bytes_eq word (codes "global"))
  pub lawful : next.is_lawful ≡ (read.is_lawful && (is_side_word word && not stood))

side-push : (name : List ℕ) (now next : Bool) (words : List (List ℕ)) (word : List ℕ) → next ≡ (now || bytes_eq word name) → now ≡ has name words → next ≡ has name (words ++ word ∷ [])
side-push name now next words word takes shows = takes ∙ ap (λ b. b || bytes_eq word name) shows ∙ sym (has-push name words word)

pub Shows-push : (read next : SideWords) (words : List (List ℕ)) (word : List ℕ) → Shows read words → Takes read next word (has word words) → Shows next (words ++ word ∷ [])
Shows-push read next words word shows takes =
    let top = side-push (codes "top") read.sides.top next.sides.top words word takes.top (ap (λ s. s.top) shows.sides) in
    let bottom = side-push (codes "bottom") read.sides.bottom next.sides.bottom words word takes.bottom (ap (λ s. s.bottom) shows.sides) in
    let left = side-push (codes "left") read.sides.left next.sides.left words word takes.left (ap (λ s. s.left) shows.sides) in
    let right = side-push (codes "right") read.sides.right next.sides.right words word takes.right (ap (λ s. s.right) shows.sides) in
    record {
      sides = rw (top, bottom, left, right) refl;
      global = side-push (codes "global") read.is_global next.is_global words word takes.global shows.global;
      lawful = takes.lawful ∙ ap (λ b. b && (is_side_word word && not (has word words))) shows.lawful ∙ sym (lawful-push words word);
    }

into_true : (b : Bool) → true ≡ (b || true)
into_true true = refl
into_true false = refl

into_same : (b : Bool) → b ≡ (b || false)
into_same b = sym (or-false b)

-- one more word that is a side or `global`
pub Shows-top : (read : SideWords) (words : List (List ℕ)) → Shows read words → Shows (record { sides = record { top = true; bottom = read.sides.bottom; left = read.sides.left; right = read.sides.right }; is_global = read.is_global; is_lawful = read.is_lawful && not read.sides.top }) (words ++ codes "top" ∷ [])
Shows-top read words shows =
    Shows-push read _ words (codes "top") shows (record { top = into_true (read.sides.top); bottom = into_same (read.sides.bottom); left = into_same (read.sides.left); right = into_same (read.sides.right); global = into_same (read.is_global); lawful = ap (λ b. read.is_lawful && not b) (ap (λ s. s.top) shows.sides) })

pub Shows-bottom : (read : SideWords) (words : List (List ℕ)) → Shows read words → Shows (record { sides = record { top = read.sides.top; bottom = true; left = read.sides.left; right = read.sides.right }; is_global = read.is_global; is_lawful = read.is_lawful && not read.sides.bottom }) (words ++ codes "bottom" ∷ [])
Shows-bottom read words shows =
    Shows-push read _ words (codes "bottom") shows (record { top = into_same (read.sides.top); bottom = into_true (read.sides.bottom); left = into_same (read.sides.left); right = into_same (read.sides.right); global = into_same (read.is_global); lawful = ap (λ b. read.is_lawful && not b) (ap (λ s. s.bottom) shows.sides) })

pub Shows-left : (read : SideWords) (words : List (List ℕ)) → Shows read words → Shows (record { sides = record { top = read.sides.top; bottom = read.sides.bottom; left = true; right = read.sides.right }; is_global = read.is_global; is_lawful = read.is_lawful && not read.sides.left }) (words ++ codes "left" ∷ [])
Shows-left read words shows =
    Shows-push read _ words (codes "left") shows (record { top = into_same (read.sides.top); bottom = into_same (read.sides.bottom); left = into_true (read.sides.left); right = into_same (read.sides.right); global = into_same (read.is_global); lawful = ap (λ b. read.is_lawful && not b) (ap (λ s. s.left) shows.sides) })

pub Shows-right : (read : SideWords) (words : List (List ℕ)) → Shows read words → Shows (record { sides = record { top = read.sides.top; bottom = read.sides.bottom; left = read.sides.left; right = true }; is_global = read.is_global; is_lawful = read.is_lawful && not read.sides.right }) (words ++ codes "right" ∷ [])
Shows-right read words shows =
    Shows-push read _ words (codes "right") shows (record { top = into_same (read.sides.top); bottom = into_same (read.sides.bottom); left = into_same (read.sides.left); right = into_true (read.sides.right); global = into_same (read.is_global); lawful = ap (λ b. read.is_lawful && not b) (ap (λ s. s.right) shows.sides) })

pub Shows-global : (read : SideWords) (words : List (List ℕ)) → Shows read words → Shows (record { sides = record { top = read.sides.top; bottom = read.sides.bottom; left = read.sides.left; right = read.sides.right }; is_global = true; is_lawful = read.is_lawful && not read.is_global }) (words ++ codes "global" ∷ [])
Shows-global read words shows =
    Shows-push read _ words (codes "global") shows (record { top = into_same (read.sides.top); bottom = into_same (read.sides.bottom); left = into_same (read.sides.left); right = into_same (read.sides.right); global = into_true (read.is_global); lawful = ap (λ b. read.is_lawful && not b) shows.global })
