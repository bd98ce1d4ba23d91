use Rattle.strip_place.proofs.Prelude.{◌≡◌, ◌+◌, ◌<◌, ◌≤◌, ◌++◌, List, [], length, take, drop, get_or, ap, sym, subst, ◌∙◌, ◌⊎◌, rules, set, arith, nat_le, get_or_read, get_or_from_slice_get, NetBox, Point, Sides, AreBothRenewed, boxed_length, length_after, reached_length, sides_of, IsOnNone, Wiring, length_of, no_point, point_at, points_after, wiring_after}
use Rattle.strip_place.proofs.Rewiring.{few_first, few_second, grown_is, kept_is, least_first, least_second, points_back, sums_small, touched_back, touched_there, whole_back, wired_after, wired_again, wiring_of}
use Rattle.strip_place.proofs.wires.Wires.exchange_within.Goals as goal

pub weigh-one-requires-clause-touched : goal.weigh-one-requires-clause-touched
weigh-one-requires-clause-touched c =
    let w = c.self.inside in
    let points = w.points.items in
    let view : wiring_of w.nets points ≡ c.args.self.now = c.self.view_is in
    let same : points ≡ c.args.self.now.points = ap (λ (v : Wiring). v.points) view in
    let within : c.args.block < length points = rw same c.requires.block in
    let inside : c.args.other < length points = rw same c.requires.other in
    let stood : (point_at points c.args.other ≡ c.args.there) ⊎ IsOnNone w.nets c.args.other = subst (λ (v : Wiring). (point_at v.points c.args.other ≡ c.args.there) ⊎ IsOnNone v.nets c.args.other) (sym view) c.requires.stood in
    let one = c.row-first.result.now in
    let two = c.row-second.result.now in
    let first : get_or w.touching c.args.block [] ≡ one = get_or_from_slice_get w.touching c.args.block one [] c.row-first.ensures in
    let second : get_or w.touching c.args.other [] ≡ two = get_or_from_slice_get w.touching c.args.other two [] c.row-second.ensures in
    record {
      touched = rw (c.as_slice.ensures.value, c.self.invariant.exact.long) (few_first w.nets w.touching points w.boxes.items c.args.block c.args.other c.args.there one two c.self.invariant within inside c.requires.differs stood first second);
      boxes = sums_small w.nets w.touching points w.boxes.items c.args.block c.args.other c.args.there one two c.self.invariant within inside c.requires.differs stood first second c.as_slice.result.now c.as_slice.ensures.value;
    }

pub weigh-two-requires-clause-touched : goal.weigh-two-requires-clause-touched
weigh-two-requires-clause-touched c =
    let w = c.self.inside in
    let points = w.points.items in
    let view : wiring_of w.nets points ≡ c.args.self.now = c.self.view_is in
    let same : points ≡ c.args.self.now.points = ap (λ (v : Wiring). v.points) view in
    let within : c.args.block < length points = rw same c.requires.block in
    let inside : c.args.other < length points = rw same c.requires.other in
    let stood : (point_at points c.args.other ≡ c.args.there) ⊎ IsOnNone w.nets c.args.other = subst (λ (v : Wiring). (point_at v.points c.args.other ≡ c.args.there) ⊎ IsOnNone v.nets c.args.other) (sym view) c.requires.stood in
    let one = c.row-first.result.now in
    let two = c.row-second.result.now in
    let first : get_or w.touching c.args.block [] ≡ one = get_or_from_slice_get w.touching c.args.block one [] c.row-first.ensures in
    let second : get_or w.touching c.args.other [] ≡ two = get_or_from_slice_get w.touching c.args.other two [] c.row-second.ensures in
    record {
      touched = rw (c.as_slice-2.ensures.value, c.self.invariant.exact.long) (few_second w.nets w.touching points w.boxes.items c.args.block c.args.other c.args.there one two c.self.invariant within inside c.requires.differs stood first second);
      boxes = sums_small w.nets w.touching points w.boxes.items c.args.block c.args.other c.args.there one two c.self.invariant within inside c.requires.differs stood first second c.as_slice-2.result.now c.as_slice-2.ensures.value;
    }

pub overflow_add-limit : goal.overflow_add-limit
overflow_add-limit c =
    let w = c.self.inside in
    let points = w.points.items in
    let view : wiring_of w.nets points ≡ c.args.self.now = c.self.view_is in
    let same : points ≡ c.args.self.now.points = ap (λ (v : Wiring). v.points) view in
    let within : c.args.block < length points = rw same c.requires.block in
    let inside : c.args.other < length points = rw same c.requires.other in
    let stood : (point_at points c.args.other ≡ c.args.there) ⊎ IsOnNone w.nets c.args.other = subst (λ (v : Wiring). (point_at v.points c.args.other ≡ c.args.there) ⊎ IsOnNone v.nets c.args.other) (sym view) c.requires.stood in
    let one = c.row-first.result.now in
    let two = c.row-second.result.now in
    let first : get_or w.touching c.args.block [] ≡ one = get_or_from_slice_get w.touching c.args.block one [] c.row-first.ensures in
    let second : get_or w.touching c.args.other [] ≡ two = get_or_from_slice_get w.touching c.args.other two [] c.row-second.ensures in
    let few_one = (few_first w.nets w.touching points w.boxes.items c.args.block c.args.other c.args.there one two c.self.invariant within inside c.requires.differs stood first second).few in
    let few_two = (few_second w.nets w.touching points w.boxes.items c.args.block c.args.other c.args.there one two c.self.invariant within inside c.requires.differs stood first second).few in
    omega (arith, c.weigh-one.ensures.before_small, c.weigh-two.ensures.before_small, few_one, few_two)

pub overflow_add-limit-2 : goal.overflow_add-limit-2
overflow_add-limit-2 c =
    let w = c.self.inside in
    let points = w.points.items in
    let view : wiring_of w.nets points ≡ c.args.self.now = c.self.view_is in
    let same : points ≡ c.args.self.now.points = ap (λ (v : Wiring). v.points) view in
    let within : c.args.block < length points = rw same c.requires.block in
    let inside : c.args.other < length points = rw same c.requires.other in
    let stood : (point_at points c.args.other ≡ c.args.there) ⊎ IsOnNone w.nets c.args.other = subst (λ (v : Wiring). (point_at v.points c.args.other ≡ c.args.there) ⊎ IsOnNone v.nets c.args.other) (sym view) c.requires.stood in
    let one = c.row-first.result.now in
    let two = c.row-second.result.now in
    let first : get_or w.touching c.args.block [] ≡ one = get_or_from_slice_get w.touching c.args.block one [] c.row-first.ensures in
    let second : get_or w.touching c.args.other [] ≡ two = get_or_from_slice_get w.touching c.args.other two [] c.row-second.ensures in
    let few_one = (few_first w.nets w.touching points w.boxes.items c.args.block c.args.other c.args.there one two c.self.invariant within inside c.requires.differs stood first second).few in
    let few_two = (few_second w.nets w.touching points w.boxes.items c.args.block c.args.other c.args.there one two c.self.invariant within inside c.requires.differs stood first second).few in
    omega (arith, c.weigh-one.ensures.before_small, c.weigh-two.ensures.before_small, few_one, few_two, c.requires.small)

pub overflow_add-one : goal.overflow_add-one
overflow_add-one c =
    let w = c.self.inside in
    let points = w.points.items in
    let view : wiring_of w.nets points ≡ c.args.self.now = c.self.view_is in
    let same : points ≡ c.args.self.now.points = ap (λ (v : Wiring). v.points) view in
    let within : c.args.block < length points = rw same c.requires.block in
    let inside : c.args.other < length points = rw same c.requires.other in
    let stood : (point_at points c.args.other ≡ c.args.there) ⊎ IsOnNone w.nets c.args.other = subst (λ (v : Wiring). (point_at v.points c.args.other ≡ c.args.there) ⊎ IsOnNone v.nets c.args.other) (sym view) c.requires.stood in
    let one = c.row-first.result.now in
    let two = c.row-second.result.now in
    let first : get_or w.touching c.args.block [] ≡ one = get_or_from_slice_get w.touching c.args.block one [] c.row-first.ensures in
    let second : get_or w.touching c.args.other [] ≡ two = get_or_from_slice_get w.touching c.args.other two [] c.row-second.ensures in
    let few_one = (few_first w.nets w.touching points w.boxes.items c.args.block c.args.other c.args.there one two c.self.invariant within inside c.requires.differs stood first second).few in
    let few_two = (few_second w.nets w.touching points w.boxes.items c.args.block c.args.other c.args.there one two c.self.invariant within inside c.requires.differs stood first second).few in
    omega (arith, c.weigh-one.ensures.after_small, c.weigh-two.ensures.after_small, few_one, few_two)

pub returns-then-limit-one-clause-fits : goal.returns-then-limit-one-clause-fits
returns-then-limit-one-clause-fits c =
    let w = c.self.inside in
    let points = w.points.items in
    let view : wiring_of w.nets points ≡ c.args.self.now = c.self.view_is in
    let same : points ≡ c.args.self.now.points = ap (λ (v : Wiring). v.points) view in
    let within : c.args.block < length points = rw same c.requires.block in
    let inside : c.args.other < length points = rw same c.requires.other in
    let stood : (point_at points c.args.other ≡ c.args.there) ⊎ IsOnNone w.nets c.args.other = subst (λ (v : Wiring). (point_at v.points c.args.other ≡ c.args.there) ⊎ IsOnNone v.nets c.args.other) (sym view) c.requires.stood in
    let one = c.row-first.result.now in
    let two = c.row-second.result.now in
    let first : get_or w.touching c.args.block [] ≡ one = get_or_from_slice_get w.touching c.args.block one [] c.row-first.ensures in
    let second : get_or w.touching c.args.other [] ≡ two = get_or_from_slice_get w.touching c.args.other two [] c.row-second.ensures in
    let back : c.index-back.result.now ≡ point_at points c.args.block = get_or_read points c.args.block c.index-back.result.now within c.index-back.ensures no_point in
    let before : c.weigh-one.result.before + c.weigh-two.result.before ≡ boxed_length w.boxes.items one + boxed_length w.boxes.items two =
    (let a = c.weigh-one.ensures.before ∙ ap (λ (b : List NetBox). boxed_length b one) c.as_slice.ensures.value in let b = c.weigh-two.ensures.before ∙ ap (λ (b : List NetBox). boxed_length b two) c.as_slice-2.ensures.value in omega (arith, a, b)) in
    let from : c.of-from.result ≡ sides_of (point_at points c.args.block) = c.of-from.ensures.value ∙ ap sides_of back in
    let here_x : (point_at points c.args.block).x ≤ 65535 = subst (λ (p : Point). p.x ≤ 65535) back c.of-from.ensures.x in
    let here_y : (point_at points c.args.block).y ≤ 65535 = subst (λ (p : Point). p.y ≤ 65535) back c.of-from.ensures.y in
    let least_one = least_first w.nets w.touching points w.boxes.items c.args.block c.args.other c.args.there one two c.self.invariant within inside c.requires.differs stood first second here_x here_y c.of-to.ensures.x c.of-to.ensures.y in
    let least_two = least_second w.nets w.touching points w.boxes.items c.args.block c.args.other c.args.there one two c.self.invariant within inside c.requires.differs stood first second here_x here_y c.of-to.ensures.x c.of-to.ensures.y in
    let a : c.weigh-one.result.after ≡ length_after w.boxes.items (sides_of (point_at points c.args.block)) (sides_of c.args.there) one =
    c.weigh-one.ensures.after ∙ ap (λ (b : List NetBox). length_after b c.of-from.result c.of-to.result one) c.as_slice.ensures.value ∙ ap (λ (s : Sides). length_after w.boxes.items s c.of-to.result one) from ∙ ap (λ (s : Sides). length_after w.boxes.items (sides_of (point_at points c.args.block)) s one) c.of-to.ensures.value in
    let b : c.weigh-two.result.after ≡ length_after w.boxes.items (sides_of c.args.there) (sides_of (point_at points c.args.block)) two =
    c.weigh-two.ensures.after ∙ ap (λ (b : List NetBox). length_after b c.of-to.result c.of-from.result two) c.as_slice-2.ensures.value ∙ ap (λ (s : Sides). length_after w.boxes.items c.of-to.result s two) from ∙ ap (λ (s : Sides). length_after w.boxes.items s (sides_of (point_at points c.args.block)) two) c.of-to.ensures.value in
    let after = points_after points c.args.block c.args.other c.args.there in
    let least : c.weigh-one.result.after + c.weigh-two.result.after ≤ reached_length after w.nets one + reached_length after w.nets two = omega (arith, a, b, least_one, least_two) in
    grown_is w.nets w.touching points w.boxes.items c.args.block c.args.other c.args.there one two c.self.invariant within inside c.requires.differs stood first second c.args.allowance _ _ before least c.if-limit-one.true
    ∙ ap (λ (v : Wiring). nat_le (length_of (wiring_after v c.args.block c.args.other c.args.there)) (length_of v + c.args.allowance)) view

pub renew_both-requires : goal.renew_both-requires
renew_both-requires c =
    let w = c.self.inside in
    let points = w.points.items in
    let view : wiring_of w.nets points ≡ c.args.self.now = c.self.view_is in
    let same : points ≡ c.args.self.now.points = ap (λ (v : Wiring). v.points) view in
    let within : c.args.block < length points = rw same c.requires.block in
    let inside : c.args.other < length points = rw same c.requires.other in
    let stood : (point_at points c.args.other ≡ c.args.there) ⊎ IsOnNone w.nets c.args.other = subst (λ (v : Wiring). (point_at v.points c.args.other ≡ c.args.there) ⊎ IsOnNone v.nets c.args.other) (sym view) c.requires.stood in
    let one = c.row-first.result.now in
    let two = c.row-second.result.now in
    let first : get_or w.touching c.args.block [] ≡ one = get_or_from_slice_get w.touching c.args.block one [] c.row-first.ensures in
    let second : get_or w.touching c.args.other [] ≡ two = get_or_from_slice_get w.touching c.args.other two [] c.row-second.ensures in
    let back : c.index-back.result.now ≡ point_at points c.args.block = get_or_read points c.args.block c.index-back.result.now within c.index-back.ensures no_point in
    let from : c.of-from.result ≡ sides_of (point_at points c.args.block) = c.of-from.ensures.value ∙ ap sides_of back in
    let here_x : (point_at points c.args.block).x ≤ 65535 = subst (λ (p : Point). p.x ≤ 65535) back c.of-from.ensures.x in
    let here_y : (point_at points c.args.block).y ≤ 65535 = subst (λ (p : Point). p.y ≤ 65535) back c.of-from.ensures.y in
    let given : c.as_slice-3.result.now ≡ points_after points c.args.block c.args.other c.args.there = c.as_slice-3.ensures.value ∙ ap (λ (p : Point). set (set points c.args.block c.args.there) c.args.other p) back in
    rw (given, c.as_mut_slice.ensures.value, from, c.of-to.ensures.value) (touched_there w.nets w.touching points w.boxes.items c.args.block c.args.other c.args.there one two c.self.invariant within inside c.requires.differs stood first second here_x here_y c.of-to.ensures.x c.of-to.ensures.y)

pub invariant_of-self : goal.invariant_of-self
invariant_of-self c =
    let w = c.self.inside in
    let points = w.points.items in
    let view : wiring_of w.nets points ≡ c.args.self.now = c.self.view_is in
    let same : points ≡ c.args.self.now.points = ap (λ (v : Wiring). v.points) view in
    let within : c.args.block < length points = rw same c.requires.block in
    let inside : c.args.other < length points = rw same c.requires.other in
    let stood : (point_at points c.args.other ≡ c.args.there) ⊎ IsOnNone w.nets c.args.other = subst (λ (v : Wiring). (point_at v.points c.args.other ≡ c.args.there) ⊎ IsOnNone v.nets c.args.other) (sym view) c.requires.stood in
    let one = c.row-first.result.now in
    let two = c.row-second.result.now in
    let first : get_or w.touching c.args.block [] ≡ one = get_or_from_slice_get w.touching c.args.block one [] c.row-first.ensures in
    let second : get_or w.touching c.args.other [] ≡ two = get_or_from_slice_get w.touching c.args.other two [] c.row-second.ensures in
    let back : c.index-back.result.now ≡ point_at points c.args.block = get_or_read points c.args.block c.index-back.result.now within c.index-back.ensures no_point in
    let after = points_after points c.args.block c.args.other c.args.there in
    let raw : AreBothRenewed c.as_slice-3.result.now w.nets one two c.as_mut_slice.result.now c.renew_both.new.boxes c.renew_both.result = c.renew_both.ensures in
    let given : c.as_slice-3.result.now ≡ after = c.as_slice-3.ensures.value ∙ ap (λ (p : Point). set (set points c.args.block c.args.there) c.args.other p) back in
    let renewed : AreBothRenewed after w.nets one two w.boxes.items c.renew_both.new.boxes c.renew_both.result = rw (given, c.as_mut_slice.ensures.value) at raw in
    let len_is : length w.boxes.items ≡ w.boxes.len = search rules in
    let whole : take w.boxes.len (c.renew_both.new.boxes ++ drop (length c.renew_both.new.boxes) w.boxes.items) ≡ c.renew_both.new.boxes = whole_back w.boxes.len c.renew_both.new.boxes w.boxes.items (renewed.long ∙ len_is) in
    rw (whole, back) (wired_after w.nets w.touching points w.boxes.items c.args.block c.args.other c.args.there one two c.self.invariant within inside c.requires.differs stood first second c.renew_both.new.boxes c.renew_both.result renewed)

pub returns-then-renew_both-limit-clause-fits : goal.returns-then-renew_both-limit-clause-fits
returns-then-renew_both-limit-clause-fits c =
    let w = c.self.inside in
    let points = w.points.items in
    let view : wiring_of w.nets points ≡ c.args.self.now = c.self.view_is in
    let same : points ≡ c.args.self.now.points = ap (λ (v : Wiring). v.points) view in
    let within : c.args.block < length points = rw same c.requires.block in
    let inside : c.args.other < length points = rw same c.requires.other in
    let stood : (point_at points c.args.other ≡ c.args.there) ⊎ IsOnNone w.nets c.args.other = subst (λ (v : Wiring). (point_at v.points c.args.other ≡ c.args.there) ⊎ IsOnNone v.nets c.args.other) (sym view) c.requires.stood in
    let one = c.row-first.result.now in
    let two = c.row-second.result.now in
    let first : get_or w.touching c.args.block [] ≡ one = get_or_from_slice_get w.touching c.args.block one [] c.row-first.ensures in
    let second : get_or w.touching c.args.other [] ≡ two = get_or_from_slice_get w.touching c.args.other two [] c.row-second.ensures in
    let back : c.index-back.result.now ≡ point_at points c.args.block = get_or_read points c.args.block c.index-back.result.now within c.index-back.ensures no_point in
    let before : c.weigh-one.result.before + c.weigh-two.result.before ≡ boxed_length w.boxes.items one + boxed_length w.boxes.items two =
    (let a = c.weigh-one.ensures.before ∙ ap (λ (b : List NetBox). boxed_length b one) c.as_slice.ensures.value in let b = c.weigh-two.ensures.before ∙ ap (λ (b : List NetBox). boxed_length b two) c.as_slice-2.ensures.value in omega (arith, a, b)) in
    let after = points_after points c.args.block c.args.other c.args.there in
    let raw : AreBothRenewed c.as_slice-3.result.now w.nets one two c.as_mut_slice.result.now c.renew_both.new.boxes c.renew_both.result = c.renew_both.ensures in
    let given : c.as_slice-3.result.now ≡ after = c.as_slice-3.ensures.value ∙ ap (λ (p : Point). set (set points c.args.block c.args.there) c.args.other p) back in
    let renewed : AreBothRenewed after w.nets one two w.boxes.items c.renew_both.new.boxes c.renew_both.result = rw (given, c.as_mut_slice.ensures.value) at raw in
    kept_is w.nets w.touching points w.boxes.items c.args.block c.args.other c.args.there one two c.self.invariant within inside c.requires.differs stood first second c.args.allowance _ c.renew_both.result before renewed.total_is c.if-renew_both-limit.true
    ∙ ap (λ (v : Wiring). nat_le (length_of (wiring_after v c.args.block c.args.other c.args.there)) (length_of v + c.args.allowance)) view

pub renew_both-requires-2 : goal.renew_both-requires-2
renew_both-requires-2 c =
    let w = c.self.inside in
    let points = w.points.items in
    let view : wiring_of w.nets points ≡ c.args.self.now = c.self.view_is in
    let same : points ≡ c.args.self.now.points = ap (λ (v : Wiring). v.points) view in
    let within : c.args.block < length points = rw same c.requires.block in
    let inside : c.args.other < length points = rw same c.requires.other in
    let stood : (point_at points c.args.other ≡ c.args.there) ⊎ IsOnNone w.nets c.args.other = subst (λ (v : Wiring). (point_at v.points c.args.other ≡ c.args.there) ⊎ IsOnNone v.nets c.args.other) (sym view) c.requires.stood in
    let one = c.row-first.result.now in
    let two = c.row-second.result.now in
    let first : get_or w.touching c.args.block [] ≡ one = get_or_from_slice_get w.touching c.args.block one [] c.row-first.ensures in
    let second : get_or w.touching c.args.other [] ≡ two = get_or_from_slice_get w.touching c.args.other two [] c.row-second.ensures in
    let back : c.index-back.result.now ≡ point_at points c.args.block = get_or_read points c.args.block c.index-back.result.now within c.index-back.ensures no_point in
    let from : c.of-from.result ≡ sides_of (point_at points c.args.block) = c.of-from.ensures.value ∙ ap sides_of back in
    let here_x : (point_at points c.args.block).x ≤ 65535 = subst (λ (p : Point). p.x ≤ 65535) back c.of-from.ensures.x in
    let here_y : (point_at points c.args.block).y ≤ 65535 = subst (λ (p : Point). p.y ≤ 65535) back c.of-from.ensures.y in
    let after = points_after points c.args.block c.args.other c.args.there in
    let raw : AreBothRenewed c.as_slice-3.result.now w.nets one two c.as_mut_slice.result.now c.renew_both.new.boxes c.renew_both.result = c.renew_both.ensures in
    let given : c.as_slice-3.result.now ≡ after = c.as_slice-3.ensures.value ∙ ap (λ (p : Point). set (set points c.args.block c.args.there) c.args.other p) back in
    let renewed : AreBothRenewed after w.nets one two w.boxes.items c.renew_both.new.boxes c.renew_both.result = rw (given, c.as_mut_slice.ensures.value) at raw in
    let len_is : length w.boxes.items ≡ w.boxes.len = search rules in
    let whole : take w.boxes.len (c.renew_both.new.boxes ++ drop (length c.renew_both.new.boxes) w.boxes.items) ≡ c.renew_both.new.boxes = whole_back w.boxes.len c.renew_both.new.boxes w.boxes.items (renewed.long ∙ len_is) in
    let stands : c.index-stood.result.now ≡ point_at points c.args.other = get_or_read points c.args.other c.index-stood.result.now inside c.index-stood.ensures no_point in
    let here : set (set (set (set points c.args.block c.args.there) c.args.other c.index-back.result.now) c.args.block c.index-back.result.now) c.args.other c.index-stood.result.now ≡ points = rw (stands, back) (points_back points c.args.block c.args.other c.args.there c.requires.differs) in
    let lent : c.as_mut_slice-2.result.now ≡ c.renew_both.new.boxes = c.as_mut_slice-2.ensures.value ∙ whole in
    rw (c.as_slice-4.ensures.value ∙ here, lent, from, c.of-to.ensures.value) (touched_back w.nets w.touching points w.boxes.items c.args.block c.args.other c.args.there one two c.self.invariant within inside c.requires.differs stood first second here_x here_y c.of-to.ensures.x c.of-to.ensures.y c.renew_both.new.boxes c.renew_both.result renewed)

pub invariant_of-self-2 : goal.invariant_of-self-2
invariant_of-self-2 c =
    let w = c.self.inside in
    let points = w.points.items in
    let view : wiring_of w.nets points ≡ c.args.self.now = c.self.view_is in
    let same : points ≡ c.args.self.now.points = ap (λ (v : Wiring). v.points) view in
    let within : c.args.block < length points = rw same c.requires.block in
    let inside : c.args.other < length points = rw same c.requires.other in
    let stood : (point_at points c.args.other ≡ c.args.there) ⊎ IsOnNone w.nets c.args.other = subst (λ (v : Wiring). (point_at v.points c.args.other ≡ c.args.there) ⊎ IsOnNone v.nets c.args.other) (sym view) c.requires.stood in
    let one = c.row-first.result.now in
    let two = c.row-second.result.now in
    let first : get_or w.touching c.args.block [] ≡ one = get_or_from_slice_get w.touching c.args.block one [] c.row-first.ensures in
    let second : get_or w.touching c.args.other [] ≡ two = get_or_from_slice_get w.touching c.args.other two [] c.row-second.ensures in
    let back : c.index-back.result.now ≡ point_at points c.args.block = get_or_read points c.args.block c.index-back.result.now within c.index-back.ensures no_point in
    let after = points_after points c.args.block c.args.other c.args.there in
    let raw : AreBothRenewed c.as_slice-3.result.now w.nets one two c.as_mut_slice.result.now c.renew_both.new.boxes c.renew_both.result = c.renew_both.ensures in
    let given : c.as_slice-3.result.now ≡ after = c.as_slice-3.ensures.value ∙ ap (λ (p : Point). set (set points c.args.block c.args.there) c.args.other p) back in
    let renewed : AreBothRenewed after w.nets one two w.boxes.items c.renew_both.new.boxes c.renew_both.result = rw (given, c.as_mut_slice.ensures.value) at raw in
    let len_is : length w.boxes.items ≡ w.boxes.len = search rules in
    let whole : take w.boxes.len (c.renew_both.new.boxes ++ drop (length c.renew_both.new.boxes) w.boxes.items) ≡ c.renew_both.new.boxes = whole_back w.boxes.len c.renew_both.new.boxes w.boxes.items (renewed.long ∙ len_is) in
    let stands : c.index-stood.result.now ≡ point_at points c.args.other = get_or_read points c.args.other c.index-stood.result.now inside c.index-stood.ensures no_point in
    let here : set (set (set (set points c.args.block c.args.there) c.args.other c.index-back.result.now) c.args.block c.index-back.result.now) c.args.other c.index-stood.result.now ≡ points = rw (stands, back) (points_back points c.args.block c.args.other c.args.there c.requires.differs) in
    let again_raw : AreBothRenewed c.as_slice-4.result.now w.nets one two c.as_mut_slice-2.result.now c.renew_both-2.new.boxes c.renew_both-2.result = c.renew_both-2.ensures in
    let lent : c.as_mut_slice-2.result.now ≡ c.renew_both.new.boxes = c.as_mut_slice-2.ensures.value ∙ whole in
    let again : AreBothRenewed points w.nets one two c.renew_both.new.boxes c.renew_both-2.new.boxes c.renew_both-2.result = rw (c.as_slice-4.ensures.value ∙ here, lent) at again_raw in
    let last : take w.boxes.len (c.renew_both-2.new.boxes ++ drop (length c.renew_both-2.new.boxes) c.renew_both.new.boxes) ≡ c.renew_both-2.new.boxes = whole_back w.boxes.len c.renew_both-2.new.boxes c.renew_both.new.boxes (again.long ∙ renewed.long ∙ len_is) in
    rw (whole, last, here) (wired_again w.nets w.touching points w.boxes.items c.args.block c.args.other c.args.there one two c.self.invariant within inside c.requires.differs stood first second c.renew_both.new.boxes c.renew_both-2.new.boxes c.renew_both.result c.renew_both-2.result renewed again)

pub returns-clause-fits : goal.returns-clause-fits
returns-clause-fits c =
    let w = c.self.inside in
    let points = w.points.items in
    let view : wiring_of w.nets points ≡ c.args.self.now = c.self.view_is in
    let same : points ≡ c.args.self.now.points = ap (λ (v : Wiring). v.points) view in
    let within : c.args.block < length points = rw same c.requires.block in
    let inside : c.args.other < length points = rw same c.requires.other in
    let stood : (point_at points c.args.other ≡ c.args.there) ⊎ IsOnNone w.nets c.args.other = subst (λ (v : Wiring). (point_at v.points c.args.other ≡ c.args.there) ⊎ IsOnNone v.nets c.args.other) (sym view) c.requires.stood in
    let one = c.row-first.result.now in
    let two = c.row-second.result.now in
    let first : get_or w.touching c.args.block [] ≡ one = get_or_from_slice_get w.touching c.args.block one [] c.row-first.ensures in
    let second : get_or w.touching c.args.other [] ≡ two = get_or_from_slice_get w.touching c.args.other two [] c.row-second.ensures in
    let back : c.index-back.result.now ≡ point_at points c.args.block = get_or_read points c.args.block c.index-back.result.now within c.index-back.ensures no_point in
    let before : c.weigh-one.result.before + c.weigh-two.result.before ≡ boxed_length w.boxes.items one + boxed_length w.boxes.items two =
    (let a = c.weigh-one.ensures.before ∙ ap (λ (b : List NetBox). boxed_length b one) c.as_slice.ensures.value in let b = c.weigh-two.ensures.before ∙ ap (λ (b : List NetBox). boxed_length b two) c.as_slice-2.ensures.value in omega (arith, a, b)) in
    let after = points_after points c.args.block c.args.other c.args.there in
    let raw : AreBothRenewed c.as_slice-3.result.now w.nets one two c.as_mut_slice.result.now c.renew_both.new.boxes c.renew_both.result = c.renew_both.ensures in
    let given : c.as_slice-3.result.now ≡ after = c.as_slice-3.ensures.value ∙ ap (λ (p : Point). set (set points c.args.block c.args.there) c.args.other p) back in
    let renewed : AreBothRenewed after w.nets one two w.boxes.items c.renew_both.new.boxes c.renew_both.result = rw (given, c.as_mut_slice.ensures.value) at raw in
    let least : c.renew_both.result ≤ reached_length after w.nets one + reached_length after w.nets two = omega (arith, renewed.total_is) in
    grown_is w.nets w.touching points w.boxes.items c.args.block c.args.other c.args.there one two c.self.invariant within inside c.requires.differs stood first second c.args.allowance _ c.renew_both.result before least c.if-renew_both-limit.false
    ∙ ap (λ (v : Wiring). nat_le (length_of (wiring_after v c.args.block c.args.other c.args.there)) (length_of v + c.args.allowance)) view

pub returns-clause-new : goal.returns-clause-new
returns-clause-new c =
    let w = c.self.inside in
    let points = w.points.items in
    let view : wiring_of w.nets points ≡ c.args.self.now = c.self.view_is in
    let same : points ≡ c.args.self.now.points = ap (λ (v : Wiring). v.points) view in
    let within : c.args.block < length points = rw same c.requires.block in
    let inside : c.args.other < length points = rw same c.requires.other in
    let stood : (point_at points c.args.other ≡ c.args.there) ⊎ IsOnNone w.nets c.args.other = subst (λ (v : Wiring). (point_at v.points c.args.other ≡ c.args.there) ⊎ IsOnNone v.nets c.args.other) (sym view) c.requires.stood in
    let one = c.row-first.result.now in
    let two = c.row-second.result.now in
    let first : get_or w.touching c.args.block [] ≡ one = get_or_from_slice_get w.touching c.args.block one [] c.row-first.ensures in
    let second : get_or w.touching c.args.other [] ≡ two = get_or_from_slice_get w.touching c.args.other two [] c.row-second.ensures in
    let back : c.index-back.result.now ≡ point_at points c.args.block = get_or_read points c.args.block c.index-back.result.now within c.index-back.ensures no_point in
    let stands : c.index-stood.result.now ≡ point_at points c.args.other = get_or_read points c.args.other c.index-stood.result.now inside c.index-stood.ensures no_point in
    let here : set (set (set (set points c.args.block c.args.there) c.args.other c.index-back.result.now) c.args.block c.index-back.result.now) c.args.other c.index-stood.result.now ≡ points = rw (stands, back) (points_back points c.args.block c.args.other c.args.there c.requires.differs) in
    ap (wiring_of w.nets) here ∙ view
