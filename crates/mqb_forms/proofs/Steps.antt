-- What a word adds to the steps that were read.
use Rattle.std.proofs.Common.{◌≡◌, ℕ, ◌+◌, ◌<◌, ◌≤◌, List, [], ◌∷◌, ◌++◌, length, drop, map, get_or, Result, Ok, Err, refl, sym, ap, ◌∙◌, append_assoc, append-nil, Bor}
use Rattle.std.proofs.lemmas.List.{at_drop_more, drop_all}
use Rattle.mqb_base.specs.declared.draft.Op.{Op}
use Rattle.mqb_fields.specs.Reading.{◌>>=◌}
use Rattle.mqb_forms.specs.declared.faults.LineKind.{LineKind}
use Rattle.mqb_forms.specs.declared.faults.LineFault.{LineFault}
use Rattle.mqb_forms.specs.Faults.{IsFaultOf, behind}
use Rattle.mqb_forms.specs.Sends.{op_of, ops_of}

-- steps in front of more
abbrev pub before_ops : List Op → Result (List Op) LineKind → Result (List Op) LineKind
before_ops before (Ok more) = Ok (before ++ more)
before_ops before (Err kind) = Err kind

-- The words before a place were read: the whole is their steps in front of those that the words from there on are.
abbrev pub IsReadTo : Result (List Op) LineKind → ℕ → List (Bor (List ℕ)) → List Op → Type 0
IsReadTo whole place words before = whole ≡ before_ops before (ops_of (map (λ word. word.now) (drop place words)))

pub before_nothing : (r : Result (List Op) LineKind) → r ≡ before_ops [] r
before_nothing (Ok more) = refl
before_nothing (Err kind) = refl

pub before_end : (before : List Op) → before_ops before (ops_of []) ≡ Ok (before ++ [])
unfolding ops_of
before_end before = refl

one_in_front : (before : List Op) (op : Op) (r : Result (List Op) LineKind)
    → before_ops before (r >>= λ ops. Ok (op ∷ ops)) ≡ before_ops (before ++ op ∷ []) r
one_in_front before op (Ok ops) = ap Ok (sym (append_assoc before (op ∷ []) ops))
one_in_front before op (Err kind) = refl

one_more : (before : List Op) (op : Op) (word : List ℕ) (words : List (List ℕ)) → op_of word ≡ Ok op
    → before_ops before (ops_of (word ∷ words)) ≡ before_ops (before ++ op ∷ []) (ops_of words)
unfolding ops_of
one_more before op word words is = rw is (one_in_front before op (ops_of words))

stopped : (before : List Op) (kind : LineKind) (word : List ℕ) (words : List (List ℕ)) → op_of word ≡ Err kind
    → before_ops before (ops_of (word ∷ words)) ≡ Err kind
unfolding ops_of
stopped before kind word words is = rw is refl

added : (whole : Result (List Op) LineKind) (place : ℕ) (words : List (Bor (List ℕ))) (before after : List Op) (d : Bor (List ℕ)) (read : Result Op LineKind)
    → IsReadTo whole place words before → place < length words → op_of (get_or words place d).now ≡ read
    → behind (λ op. op) before read ≡ Ok after → IsReadTo whole (place + 1) words after
added whole place words before after d (Ok op) read within is more =
    let same : before ++ op ∷ [] ≡ after = cc in
    rw (← same) (read ∙ at_drop_more (λ rest. before_ops before (ops_of (map (λ word. word.now) rest))) words place d within
    ∙ one_more before op _ (map (λ word. word.now) (drop (place + 1) words)) is)
added whole place words before after d (Err kind) read within is more = absurd cc

pub ops_more : (whole : Result (List Op) LineKind) (place : ℕ) (words : List (Bor (List ℕ))) (before after : List Op) (d : Bor (List ℕ))
    → IsReadTo whole place words before → place < length words → behind (λ op. op) before (op_of (get_or words place d).now) ≡ Ok after
    → IsReadTo whole (place + 1) words after
ops_more whole place words before after d read within more = added whole place words before after d (op_of (get_or words place d).now) read within refl more

pub ops_stop : (whole : Result (List Op) LineKind) (place : ℕ) (words : List (Bor (List ℕ))) (before : List Op) (d : Bor (List ℕ)) (kind : LineKind)
    → IsReadTo whole place words before → place < length words → op_of (get_or words place d).now ≡ Err kind
    → whole ≡ Err kind
ops_stop whole place words before d kind read within is =
    read ∙ at_drop_more (λ rest. before_ops before (ops_of (map (λ word. word.now) rest))) words place d within
    ∙ stopped before kind _ (map (λ word. word.now) (drop (place + 1) words)) is

pub ops_refused : (whole : Result (List Op) LineKind) (place : ℕ) (words : List (Bor (List ℕ))) (before : List Op) (d : Bor (List ℕ)) (e : LineFault)
    → IsReadTo whole place words before → place < length words → IsFaultOf (op_of (get_or words place d).now) e
    → IsFaultOf whole e
ops_refused whole place words before d e read within refused = λ kind is. ops_stop whole place words before d kind read within (refused kind is)

pub ops_end : (whole : Result (List Op) LineKind) (place : ℕ) (words : List (Bor (List ℕ))) (before : List Op)
    → IsReadTo whole place words before → length words ≤ place → whole ≡ Ok before
ops_end whole place words before read end =
    read ∙ ap (λ rest. before_ops before (ops_of (map (λ (word : Bor (List ℕ)). word.now) rest))) (drop_all place words end)
    ∙ before_end before ∙ ap Ok (append-nil before)
