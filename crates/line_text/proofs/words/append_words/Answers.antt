use Rattle.line_text.proofs.Prelude.{◌≡◌, ℕ, List, length-take, ◌<◌, ◌∷◌, [], ◌++◌, length, take, map, arith, ap, sym, ◌∙◌, append_assoc, map-append, take-append-le, take_all, nat_tests}
use Rattle.line_text.proofs.WordLemmas.{takes_word, words_of-skipped, word_start-skipped}
use Rattle.line_text.proofs.words.append_words.Goals as goal

-- the words with one more appended
with_word : {X : Type 0} (f : X → List ℕ) (items new : List X) (word : X) (bytes : List ℕ) (tail rest all : List (List ℕ)) → new ≡ items ++ word ∷ [] → f word ≡ bytes → rest ≡ bytes ∷ tail → map f items ++ rest ≡ all → map f new ++ tail ≡ all
with_word f items new word bytes tail rest all e w r h =
    ap (λ xs. map f xs ++ tail) e
    ∙ (ap (λ xs. xs ++ tail) (map-append f items (word ∷ []))
    ∙ (append_assoc (map f items) (f word ∷ []) tail
    ∙ (ap (λ b. map f items ++ (b ∷ tail)) w ∙ (ap (λ xs. map f items ++ xs) (sym r) ∙ h))))

-- appending a word leaves the first items unchanged
same_first : {X : Type 0} (n : ℕ) (items new first : List X) (word : X) → n ≡ length first → take n items ≡ first → new ≡ items ++ word ∷ [] → take n new ≡ first
same_first n items new first word l h e =
    ap (take n) e ∙ (take-append-le n items (word ∷ []) (omega (arith, ap length h, length-take n items)) ∙ h)

pub loop-rest-init : goal.loop-rest-init
loop-rest-init c = record {
  skipped = rw c.skip_blanks-rest.ensures (word_start-skipped c.args.line.now);
  words = rw c.skip_blanks-rest.ensures (ap (λ words. map (λ w. w.now) c.args.words.now.items ++ words) (words_of-skipped c.args.line.now));
  first = take_all _ _ (omega arith);
}

pub loop-rest-smaller : goal.loop-rest-smaller
loop-rest-smaller c =
    let filled : 0 < length c.loop-rest.rest.now = grind (arith, nat_tests, c.loop-rest-test.ensures) in
    let t = takes_word c.loop-rest.rest.now c.split_word.result.1.now c.skip_blanks-rest-in-loop-rest.result.now filled c.loop-rest.invariant.skipped c.split_word.ensures.rest c.skip_blanks-rest-in-loop-rest.ensures in
    t.shorter

pub loop-rest-preserved : goal.loop-rest-preserved
loop-rest-preserved c =
    let filled : 0 < length c.loop-rest.rest.now = grind (arith, nat_tests, c.loop-rest-test.ensures) in
    let t = takes_word c.loop-rest.rest.now c.split_word.result.1.now c.skip_blanks-rest-in-loop-rest.result.now filled c.loop-rest.invariant.skipped c.split_word.ensures.rest c.skip_blanks-rest-in-loop-rest.ensures in
    record {
      skipped = t.skipped;
      words = with_word (λ w. w.now) c.loop-rest.words.items _ c.split_word.result.0 _ _ _ _ c.in_default.ensures.items c.split_word.ensures.word t.words c.loop-rest.invariant.words;
      first = same_first _ c.loop-rest.words.items _ _ c.split_word.result.0 (omega arith) c.loop-rest.invariant.first c.in_default.ensures.items;
    }
