use Rattle.std.proofs.Common.{◌≡◌, ◌∙◌, Err, sym, arith, rules}
use Rattle.mqb_forms.specs.declared.faults.LineKind.TheVariants.{Value}
use Rattle.mqb_forms.proofs.FlagLetters.{flags_read, dash_read, flags_refused, nothing_refused, no_flag_bit, reads_all, stops_low, stops_unknown}
use Rattle.mqb_forms.proofs.flags.flags_of.Goals as goal

pub returns-in_err-bit-clause-flags : goal.returns-in_err-bit-clause-flags
returns-in_err-bit-clause-flags c =
    let kind = c.in_err-bit.field-0.0 in
    let unknown = sym c.flag_bit.ensures.bit ∙ c.in_err-bit.was in
    let stop = stops_unknown _ c.loop-letter.flags c.loop-letter.letter-index kind c.args.word.now c.loop-letter.invariant.read c.loop-letter-test.true
    unknown in
    let refused = flags_refused c.args.word.now kind stop (search rules) in
    let kind_is : kind ≡ Value = no_flag_bit _ kind unknown in
    let result_is : c.from_residual.result ≡ Err kind = search rules in
    cc

pub returns-then-is_word-clause-flags : goal.returns-then-is_word-clause-flags
returns-then-is_word-clause-flags c = sym (dash_read c.args.word.now (search rules))

pub returns-then-bit-flags-clause-flags : goal.returns-then-bit-flags-clause-flags
returns-then-bit-flags-clause-flags c =
    sym (flags_refused c.args.word.now Value
    (stops_low _ c.loop-letter.flags c.loop-letter.letter-index c.in_ok-bit.bit c.args.word.now c.loop-letter.invariant.read c.loop-letter-test.true
    (sym c.flag_bit.ensures.bit ∙ c.in_ok-bit.was) c.if-bit-flags.true)
    (search rules))

pub returns-then-flags-eq0-clause-flags : goal.returns-then-flags-eq0-clause-flags
returns-then-flags-eq0-clause-flags c =
    let all = reads_all _ c.loop-letter.flags c.loop-letter.letter-index c.args.word.now c.loop-letter.invariant.read (omega arith) in
    sym (nothing_refused c.args.word.now (rw c.if-flags-eq0.true at all))

pub returns-clause-flags : goal.returns-clause-flags
returns-clause-flags c =
    let all = reads_all _ c.loop-letter.flags c.loop-letter.letter-index c.args.word.now c.loop-letter.invariant.read (omega arith) in
    sym (flags_read c.args.word.now c.loop-letter.flags all c.if-flags-eq0.false)
