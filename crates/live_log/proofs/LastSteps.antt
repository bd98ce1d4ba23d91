-- The last tags, one by one.
use Rattle.live_log.proofs.Prelude.{◌≡◌, ℕ, ◌+◌, Bool, true, false, List, [], ◌∷◌, ◌++◌, Bor, drop, reverse, slice_get, Some, None, refl, sym, ap, ◌∙◌, append-nil, append_assoc, if◌then◌else◌, filter_map, map-append, reverse-append, filter_map-append, has_name, with_name, texts, owner_of, last_tags, named_tag, newest, with_tag}
use Rattle.live_log.proofs.AlikeSteps.{drop_place}

newest_first : (owners : List (List ℕ)) (tag : List ℕ) (tags : List (List ℕ)) → newest owners (tag ∷ tags) ≡ newest owners (tag ∷ []) ++ newest (with_name owners (owner_of tag)) tags
newest_first owners tag tags = by_test (has_name owners (owner_of tag))
  where
    by_test : (b : Bool) → (if b then newest owners tags else tag ∷ newest (if b then owners else owners ++ owner_of tag ∷ []) tags) ≡ (if b then [] else tag ∷ []) ++ newest (if b then owners else owners ++ owner_of tag ∷ []) tags
    by_test true = refl
    by_test false = refl

-- one more tag is looked at
pub newest_more : (tags : List (Bor (List ℕ))) (i : ℕ) (tag : Bor (List ℕ)) (old new owners owners_new all : List (List ℕ)) → slice_get tags i ≡ Some tag →
    old ++ newest owners (texts (drop i tags)) ≡ all → new ≡ old ++ newest owners (tag.now ∷ []) → owners_new ≡ with_name owners (owner_of tag.now) →
    new ++ newest owners_new (texts (drop (i + 1) tags)) ≡ all
newest_more tags i tag old new owners owners_new all at so_far more owner =
    let rest = texts (drop (i + 1) tags) in
    let first : newest owners (texts (drop i tags)) ≡ newest owners (tag.now ∷ []) ++ newest (with_name owners (owner_of tag.now)) rest = ap (λ ts. newest owners (texts ts)) (drop_place tags i tag at) ∙ newest_first owners tag.now rest in
    ap (λ n. n ++ newest owners_new rest) more
    ∙ (ap (λ o. (old ++ newest owners (tag.now ∷ [])) ++ newest o rest) owner
    ∙ (append_assoc old (newest owners (tag.now ∷ [])) (newest (with_name owners (owner_of tag.now)) rest)
    ∙ (ap (λ t. old ++ t) (sym first) ∙ so_far)))

one_tag : (tags : List (List ℕ)) (line : List ℕ) → with_tag tags (named_tag line) ≡ tags ++ filter_map named_tag (line ∷ [])
one_tag tags line =
    elim (named_tag line) as (λ o. named_tag line ≡ o → with_tag tags o ≡ tags ++ filter_map (λ _. o) (line ∷ [])) [
      | None ↦ λ is. sym (append-nil tags)
      | Some tag ↦ λ is. refl
    ] refl

-- one more line is looked at
pub tags_more : (old new all : List (List ℕ)) (line : List ℕ) (lines rest : List (List ℕ)) → lines ≡ line ∷ rest → old ++ filter_map named_tag lines ≡ all → new ≡ with_tag old (named_tag line) → new ++ filter_map named_tag rest ≡ all
tags_more old new all line lines rest is so_far more =
    ap (λ n. n ++ filter_map named_tag rest) (more ∙ one_tag old line)
    ∙ (append_assoc old (filter_map named_tag (line ∷ [])) (filter_map named_tag rest)
    ∙ (ap (λ t. old ++ t) (sym (ap (λ ls. filter_map named_tag ls) is ∙ filter_map-append named_tag (line ∷ []) rest)) ∙ so_far))

texts_reversed : (tags : List (Bor (List ℕ))) → texts (reverse tags) ≡ reverse (texts tags)
texts_reversed [] = refl
texts_reversed (tag ∷ tags) =
    ap texts (reverse-append (tag ∷ []) tags)
    ∙ (map-append (λ slice. slice.now) (reverse tags) (tag ∷ [])
    ∙ (ap (λ t. t ++ tag.now ∷ []) (texts_reversed tags) ∙ sym (reverse-append (tag.now ∷ []) (texts tags))))

-- all lines and all tags were looked at
pub last_found : (found newer turned all : List (Bor (List ℕ))) (lines : List (List ℕ)) → found ≡ reverse newer → texts newer ≡ newest [] (texts turned) → turned ≡ reverse all → texts all ≡ filter_map named_tag lines → texts found ≡ last_tags lines
last_found found newer turned all lines found_is newer_is turned_is all_is =
    ap texts found_is
    ∙ (texts_reversed newer
    ∙ ap reverse (newer_is ∙ ap (λ ts. newest [] ts) (ap texts turned_is ∙ (texts_reversed all ∙ ap reverse all_is))))
