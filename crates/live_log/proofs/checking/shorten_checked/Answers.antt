use Rattle.live_log.proofs.checking.shorten_checked.Goals as goal

pub returns-in-None-clause-checked : goal.returns-in-None-clause-checked
returns-in-None-clause-checked g c =
    let whole = c.in_ok-shorter.ensures.served in
    let short = c.in_ok-serve_short.ensures.served in
    record {
      whole_text = whole.0;
      whole_served = c.shorten.new.service;
      serves_whole = whole.1;
      short_text = short.0;
      short_served = c.serve_short.new.service;
      serves_short = short.1;
      whole_after = c.differing_in.new.whole;
      short_after = c.differing_in.new.short;
      answer_alike = c.in_ok-differing_in.ensures c.in-None.is;
    }
