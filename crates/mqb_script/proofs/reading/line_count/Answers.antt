use Rattle.std.proofs.Common.{◌+◌, ap, sym, ◌∙◌}
use Rattle.mqb_script.proofs.Gathered.{begun_lines}
use Rattle.mqb_script.proofs.reading.line_count.Goals as goal

pub returns : goal.returns
returns c = ap (λ n. n + 1) c.line_feeds.ensures ∙ sym (begun_lines c.args.text.now c.in-len1-up.len_at_least)
