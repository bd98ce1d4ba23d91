use Rattle.desk_layouts.proofs.Prelude.{◌≡◌, true, codes, sym, on_ok_weaker, bytes_eq-Decides, bytes_eq, AreChecked, without_nets}
use Rattle.desk_layouts.proofs.StripTexts.{texts_without_routes, unchecked}
use Rattle.desk_layouts.proofs.strip.print.Goals as goal

pub returns-then-eq : goal.returns-then-eq
returns-then-eq g c =
    let text = g.F.FileTexts.text c.args.files.now in
    let wishes = c.args.wishes in
    let net = c.as_slice.result.now in
    let place = c.as_slice-then-eq.result.now in
    let bytes = without_nets net place in
    let is_none : bytes_eq wishes.route_file.now (codes "-") ≡ true = sym c.if-eq.ensures in
    let same : wishes.route_file.now ≡ codes "-" = (bytes_eq-Decides wishes.route_file.now (codes "-")).0 is_none in
    on_ok_weaker c.print_unrouted.result
    (λ shown. record {
      net = net;
      is_net = rw c.as_slice.ensures.value c.in_ok-net.ensures.read;
      place = place;
      is_place = rw c.as_slice-then-eq.ensures.value c.in_ok-place.ensures.read;
      bytes = bytes;
      are = texts_without_routes text wishes net place is_none;
      checked = unchecked wishes.against (λ against. AreChecked text against bytes) (λ some. wishes.checked_routes some same);
      shown = shown;
    })
    c.print_unrouted.ensures
