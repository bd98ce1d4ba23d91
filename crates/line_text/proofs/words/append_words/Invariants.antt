use Rattle.line_text.proofs.Prelude.{◌≡◌, length, take, map, ◌++◌, not, position_or_len, is_blank, words_of}
use Rattle.line_text.proofs.words.append_words.Given as goal

abbrev pub invariant-loop-rest : goal.invariant-loop-rest
invariant-loop-rest l = record {
  skipped : position_or_len (λ b. not (is_blank b)) l.rest ≡ 0;
  words : map (λ w. w.now) l.words.items ++ words_of l.rest ≡ map (λ w. w.now) l.fn.words.items ++ words_of l.line;
  first : take l.count l.words.items ≡ l.fn.words.items;
}

abbrev pub decreases-loop-rest : goal.decreases-loop-rest
decreases-loop-rest l = length l.rest
