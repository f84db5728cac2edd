-- Of a line that is too long as many bytes are kept as say so.
use Rattle.std.proofs.Common.{◌≡◌, ◌∙◌, ◌+◌, ◌++◌, ◌-◌, ◌<◌, ◌≤◌, Bool, Err, List, ap, append-nil, cond, false, length, min, nat_le, refl, sym, take, true, arith, ℕ}
use Rattle.std.proofs.Math.Seq.{take-append-add}
use Rattle.std.proofs.lemmas.Bool.Decides.{nat_tests}
use Rattle.std.proofs.lemmas.List.{length-take, take-append-le, take_all, take_min}
use Rattle.std.specs.Prelude.{ok_or}
use Rattle.mqb_commands.specs.declared.status.Status.TheVariants as status
use Rattle.mqb_shell.specs.Lines.{asked_in}
use Rattle.mqb_shell.specs.declared.asking.TheConstants.{MAX_LINE}
use Rattle.mqb_words.specs.Lines.{command_in}

-- the front of a text that grows
pub front_grows : (n : ℕ) (text bytes : List ℕ) → take n (text ++ bytes) ≡ take n text ++ take (n - length text) bytes
front_grows n text bytes = by (nat_le n (length text)) refl
  where
    by : (b : Bool) → b ≡ nat_le n (length text) → take n (text ++ bytes) ≡ take n text ++ take (n - length text) bytes
    by true is =
        let short : n ≤ length text = grind (arith, nat_tests, is) in
        let none : n - length text ≡ 0 = omega (arith, short) in
        take-append-le n text bytes short ∙ sym (ap (λ (k : ℕ). take n text ++ take k bytes) none ∙ append-nil (take n text))
    by false is =
        let long : length text ≤ n = grind (arith, nat_tests, is) in
        let more : length text + (n - length text) ≡ n = omega (arith, long) in
        ap (λ (k : ℕ). take k (text ++ bytes)) (sym more) ∙ take-append-add text bytes (n - length text)
        ∙ ap (λ (t : List ℕ). t ++ take (n - length text) bytes) (sym (take_all n text long))

-- what is kept grows by as much as there is room for
pub kept_grows : (n : ℕ) (text bytes kept : List ℕ) → kept ≡ take n text
    → kept ++ take (min (n - length kept) (length bytes)) bytes ≡ take n (text ++ bytes)
kept_grows n text bytes kept is =
    let size : length kept ≡ min n (length text) = ap length is ∙ length-take n text in
    let room : n - length kept ≡ n - length text = omega (arith, size) in
    ap (λ (t : List ℕ). kept ++ t) (take_min (n - length kept) bytes)
    ∙ ap (λ (k : ℕ). kept ++ take k bytes) room
    ∙ ap (λ (t : List ℕ). t ++ take (n - length text) bytes) is ∙ sym (front_grows n text bytes)

-- which says what the whole line asks
pub kept_asks : (text kept : List ℕ) → kept ≡ take (MAX_LINE + 1) text → asked_in kept ≡ asked_in text
kept_asks text kept is = by (nat_le (length text) MAX_LINE) refl
  where
    size : length kept ≡ min (MAX_LINE + 1) (length text)
    size = ap length is ∙ length-take (MAX_LINE + 1) text

    by : (b : Bool) → b ≡ nat_le (length text) MAX_LINE → asked_in kept ≡ asked_in text
    by true fits =
        let short : length text ≤ MAX_LINE + 1 = grind (arith, nat_tests, fits) in
        ap asked_in (is ∙ take_all (MAX_LINE + 1) text short)
    by false fits =
        let long : MAX_LINE < length text = grind (arith, nat_tests, fits) in
        let too : nat_le (length kept) MAX_LINE ≡ false = grind (arith, nat_tests, size, long) in
        ap (λ (b : Bool). cond b (ok_or (command_in kept) status.Usage) (Err status.TooLong)) too
        ∙ ap (λ (b : Bool). cond b (ok_or (command_in text) status.Usage) (Err status.TooLong)) fits

-- nothing of it is kept only where there is nothing
pub none_kept : (text kept : List ℕ) → kept ≡ take (MAX_LINE + 1) text → length kept ≡ 0 → length text ≡ 0
none_kept text kept is none =
    let size : length kept ≡ min (MAX_LINE + 1) (length text) = ap length is ∙ length-take (MAX_LINE + 1) text in
    omega (arith, size, none)
