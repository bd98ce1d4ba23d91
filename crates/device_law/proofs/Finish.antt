-- The end of an output: what was shown is read, or something is missing.
use Rattle.device_law.proofs.Prelude.{◌≡◌, ℕ, ◌-◌, Bool, true, false, cond, ◌&&◌, List, [], ◌∷◌, length, map, Option, Some, None, refl, sym, ap, ◌∙◌, subst, arith, ◌==◌, IfSome, is_some, nat_lt, option_map, unwrap_or, option_or, nat_tests, PlacedStrip, empty_service, Stage, NoList, NoOwners, Listed, OwnedNode, Seen, unless_fault, first_foreign, owner_fault, last_fault, missing_part, missing_inside, entries, IsReadFrom, Shown, without_state}
use Rattle.std.specs.Prelude.{not}
use Rattle.device_law.proofs.Each.{Each}
use Rattle.device_law.proofs.Found.{OwnedIn, none_foreign}
use Rattle.device_law.proofs.StripEntries.{strip_entries}

mapped : (xs : List Listed) → length (map without_state xs) ≡ length xs
mapped [] = refl
mapped (x ∷ xs) = let more = mapped xs in omega (arith, more)

-- the end of an output: what was shown is read, or it is missing
module _ (strips : List PlacedStrip) (names : List (List ℕ)) (shown : Shown) (last : Stage) (final : Seen) (lines : ℕ) where
  abbrev IsNow : Option (List Listed) → Type 0
  IsNow o = IfSome o (λ listed. map without_state listed ≡ strip_entries strips names)

  -- so many tenancies are live that some list shows them
  no_list : (o : Option (List Listed)) → final.listed ≡ unwrap_or o [] → IsNow o → final.live ≡ length (strip_entries strips names) → (nat_lt 0 final.live && (length final.listed == 0)) ≡ true → o ≡ None
  no_list o listed now live is = grind (arith, mapped)

  all_live : (o : Option (List Listed)) → final.listed ≡ unwrap_or o [] → IsNow o → final.live ≡ length (strip_entries strips names) → (nat_lt 0 final.live && (length final.listed == 0)) ≡ false → map without_state final.listed ≡ strip_entries strips names
  all_live (Some xs) listed now live is = ap (map without_state) listed ∙ now
  all_live None listed now live is =
      let none : length final.listed ≡ 0 = ap (λ ys. length ys) listed in
      let empty_service : length (strip_entries strips names) ≡ 0 = grind (arith, nat_tests, live, none, is) in
      ap (map without_state) listed ∙ sym (nothing (strip_entries strips names) empty_service)
    where
      nothing : (xs : List Listed) → length xs ≡ 0 → xs ≡ []
      nothing [] e = refl
      nothing (x ∷ xs) e = absurd (omega (arith, e))

  -- by what is missing
  by_owned : (o : Option (List OwnedNode)) → shown.owned ≡ o → final.owned ≡ unwrap_or o [] → final.has_owners ≡ is_some o → IfSome o (Each (OwnedIn strips (length names))) →
      map without_state final.listed ≡ strip_entries strips names → map without_state (entries last.service last.names) ≡ strip_entries strips names → final.listed ≡ unwrap_or shown.listed [] →
      IsReadFrom shown last (unless_fault final (option_or (cond (not final.has_owners) (Some (record { fault = NoOwners; line = final.changed })) None) (option_map (owner_fault final) (first_foreign final))))
  by_owned None is owned has each now all listed = grind arith
  by_owned (Some xs) is owned has each now all listed =
      let P : Bool → Type 0 = λ b. IsReadFrom shown last (unless_fault final (option_or (cond (not b) (Some (record { fault = NoOwners; line = final.changed })) None) (option_map (owner_fault final) (first_foreign final)))) in
      let Q : Option ℕ → Type 0 = λ o. IsReadFrom shown last (unless_fault final (option_map (owner_fault final) o)) in
      let R : List OwnedNode → Type 0 = λ ys. Each (OwnedIn strips (length names)) ys in
      let none : first_foreign final ≡ None = none_foreign strips names final.listed final.owned now (subst R (sym owned) each) in
      subst P (sym has) (subst Q (sym none) (listed, ap (λ ys. Some ys) owned ∙ sym is, now ∙ sym all))

  by_missing : (b : Bool) → (nat_lt 0 final.live && (length final.listed == 0)) ≡ b → final.listed ≡ unwrap_or shown.listed [] → IsNow shown.listed → final.live ≡ length (strip_entries strips names) →
      final.owned ≡ unwrap_or shown.owned [] → final.has_owners ≡ is_some shown.owned → IfSome shown.owned (Each (OwnedIn strips (length names))) →
      map without_state (entries last.service last.names) ≡ strip_entries strips names →
      IsReadFrom shown last (unless_fault final (option_or (cond b (Some (record { fault = NoList; line = final.changed })) (cond (not final.has_owners) (Some (record { fault = NoOwners; line = final.changed })) None)) (option_map (owner_fault final) (first_foreign final))))
  by_missing b is listed now live owned has each all = grind (arith, no_list, by_owned, all_live)

  pub finish : final.awaited ≡ 0 → missing_part final lines ≡ missing_inside final lines → final.listed ≡ unwrap_or shown.listed [] → IsNow shown.listed → final.live ≡ length (strip_entries strips names) →
      final.owned ≡ unwrap_or shown.owned [] → final.has_owners ≡ is_some shown.owned → IfSome shown.owned (Each (OwnedIn strips (length names))) →
      map without_state (entries last.service last.names) ≡ strip_entries strips names → IsReadFrom shown last (unless_fault final (last_fault final lines))
  unfolding last_fault
  finish awaited missing_is listed now live owned has each all = grind (arith, by_missing)
