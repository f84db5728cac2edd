-- What the script of a ring keeps.
use Rattle.std.proofs.Common.{◌≡◌, ℕ, ◌+◌, ◌≤◌, List, [], ◌∷◌, Option, Result, Ok, Err, codes, arith, refl}
use Rattle.std.specs.List.{list_all}
use Rattle.std.specs.Result.{IfOk}
use Rattle.std.specs.Option.{IfSome}
use Rattle.std.proofs.lemmas.Result.{IfOk-at_ok}
use Rattle.mqb_base.specs.Same.{same_bytes}
use Rattle.mqb_forms.specs.Words.{number_in}
use Rattle.mqb_forms.proofs.Formed.{then_gives, choice_gives, number_bounds}
use Rattle.mqb_script.specs.declared.faults.ScriptFault.{ScriptFault}
use Rattle.mqb_script.specs.declared.grammar.Grammar.TheVariants.{Ring}
use Rattle.mqb_script.specs.declared.ring.RingScript.{RingScript}
use Rattle.mqb_script.specs.Hosts.{MOST_MANAGERS}
use Rattle.mqb_script.specs.Lines.{words_of, is_skipped, is_printable}
use Rattle.mqb_script.specs.Script.{lines_of, numbered, script_from}
use Rattle.mqb_script.specs.Reading.{MOST_LINES, begun, line_count}
use Rattle.mqb_script.specs.Ring.{IsRing, only_word, count_from, count_in, ring_from, ring_of}
use Rattle.mqb_script.proofs.Bounds.{AllFormed, few_events, lines_formed, numbered_gives}

abbrev IsCount : ℕ → Type 0
IsCount n = (2 ≤ n) × (n ≤ MOST_MANAGERS)

count_formed : (words : List (List ℕ)) → IfOk (count_from words) IsCount
unfolding count_from
count_formed [] = tt
count_formed (word ∷ words) =
    choice_gives IsCount (same_bytes word (codes "managers")) _ _
    (λ _. then_gives IsCount (λ count. number_in 2 MOST_MANAGERS count) (only_word words)
    (λ count is. number_formed count)) tt
  where
    number_formed : (count : List ℕ) → IfOk (number_in 2 MOST_MANAGERS count) IsCount
    number_formed count = by (number_in 2 MOST_MANAGERS count) (λ n is. let bounds = number_bounds 2 MOST_MANAGERS n count is in (bounds.low, bounds.high))
      where
        by : {E : Type 0} (r : Result ℕ E) → ((n : ℕ) → r ≡ Ok n → IsCount n) → IfOk r IsCount
        by (Ok n) h = h n refl
        by (Err e) h = tt

line_count_formed : (line : List ℕ) → IfOk (count_in line) IsCount
unfolding count_in
line_count_formed line = choice_gives IsCount (list_all is_printable line) _ _ (λ _. count_formed (words_of line)) tt

begun_behind : (line : List ℕ) (lines : List (List ℕ)) → begun lines ≤ begun (line ∷ lines)
begun_behind [] [] = omega arith
begun_behind [] (next ∷ lines) = omega arith
begun_behind (b ∷ line) lines = omega arith

abbrev IfRing : Option RingScript → Type 0
IfRing ring = IfSome ring IsRing

pub lines_kept : (n : ℕ) (lines : List (List ℕ)) → begun lines ≤ MOST_LINES → IfOk (ring_from n lines) IfRing
lines_kept n [] few = tt
lines_kept n (line ∷ lines) few =
    let behind : begun lines ≤ MOST_LINES = (let more = begun_behind line lines in omega (arith, more, few)) in
    choice_gives IfRing (is_skipped line) (ring_from (n + 1) lines) _ (λ _. lines_kept (n + 1) lines behind)
    (then_gives IfRing _ (numbered n (count_in line))
    (λ count one. then_gives IfRing _ (script_from (Ring count) (n + 1) lines)
    (λ events more.
    let bounds = IfOk-at_ok IsCount one (numbered_gives IsCount n (count_in line) (line_count_formed line)) in
    let short = few_events (Ring count) (n + 1) lines events more in
    record {
      some = bounds.0;
      most = bounds.1;
      formed = IfOk-at_ok (AllFormed (Ring count)) more (lines_formed (Ring count) (n + 1) lines);
      few = omega (arith, short, behind);
    })))

pub ring_kept : (text : List ℕ) (r : Result (Option RingScript) ScriptFault) → line_count text ≤ MOST_LINES → IfOk r (λ ring. ring_of text ≡ Ok ring)
    → IfOk r IfRing
ring_kept text (Ok ring) few is = IfOk-at_ok IfRing is (lines_kept 1 (lines_of text) few)
ring_kept text (Err fault) few is = tt
