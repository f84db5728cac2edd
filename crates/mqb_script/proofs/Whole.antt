-- The script that is made is one.
use Rattle.std.proofs.Common.{◌≤◌, List, ap, arith, length, subst, sym, ◌∙◌, ℕ}
use Rattle.std.specs.List.{AllByRecursion}
use Rattle.mqb_script.specs.Reading.{MOST_LINES, line_count}
use Rattle.mqb_script.specs.Script.{lines_of, script_from}
use Rattle.mqb_script.specs.Spelling.{IsSpelled}
use Rattle.mqb_script.specs.declared.events.Event.{Event}
use Rattle.mqb_script.specs.declared.grammar.Grammar.TheVariants.{Pair}
use Rattle.mqb_script.specs.Made.{MadeScriptsAreScripts}
use Rattle.mqb_script.specs.Orders.{events_of}
use Rattle.mqb_script.proofs.Bounding.{all_spelled}
use Rattle.mqb_script.proofs.Making.{text_is}
use Rattle.mqb_script.proofs.MadeReading.{ReadBack, all_read, begun_few, counted_from, events_in, lines_counted, text_of}
use Rattle.mqb_script.proofs.Sizing.{events_few, text_short}

lines_few : ReadBack → (es : List Event) → AllByRecursion (IsSpelled Pair) es → length es ≤ 40000 → line_count (text_of es) ≤ MOST_LINES
lines_few law es spelled few = let parts = lines_counted law es spelled in let begins = begun_few (lines_of (text_of es)) in omega (arith, parts, begins, few)

pub made : ReadBack → MadeScriptsAreScripts
made law n least within = record {
  short = text_short n within;
  few_lines = subst (λ (t : List ℕ). line_count t ≤ MOST_LINES) (sym (text_is n)) (lines_few law (events_of n) (all_spelled n within) (events_few n within));
  lines = counted_from 1 (events_of n);
  script = ap (λ (t : List ℕ). script_from Pair 1 (lines_of t)) (text_is n) ∙ all_read law 1 (events_of n) (all_spelled n within);
  events = events_in 1 (events_of n);
}
