-- User headers, both ways.
use Rattle.std.proofs.Common.{◌≡◌, ◌≤◌, ◌<◌, ℕ, ◌+◌, ◌-◌, ◌==◌, ◌&&◌, ◌||◌, Bool, true, false, cond, ltb, leb, List, [], ◌++◌, length, take, is_some, Option, Some, None, Result, Ok, Err, refl, sym, ap, subst, ◌∙◌, arith, length-append}
use Rattle.std.specs.Prelude.{IfSome}
use Rattle.std.proofs.lemmas.Bool.{eqb-true, le-leb, le-ltb, ne_eqb}
use Rattle.std.proofs.lemmas.List.{take_at}
use Rattle.mqb_fields.specs.declared.faults.HeadFault.{HeadFault}
use Rattle.mqb_fields.specs.Packets.{field_at, lent_at, skipped}
use Rattle.mqb_fields.specs.Reading.{◌>>=◌, Reading, rest_of, moved}
use Rattle.mqb_heads.specs.mqb_names.Grammar.{◌then◌, Exactly}
use Rattle.mqb_heads.specs.mqb_names.Wire.{IsWireForm, length_at, spelled, wire_at}
use Rattle.mqb_heads.specs.mqb_names.lemmas.Lengths.{length_more, kind_within}
use Rattle.mqb_heads.specs.Fields.{WireName, in_name, name_at, some_name, optional_name_at, source_at, padding, padded_at}
use Rattle.mqb_heads.specs.Flags.{bit, bits}
use Rattle.mqb_heads.specs.User.{User, Names, flags_of, have_types, user_flags_at, names_at, user_at}
use Rattle.mqb_heads.specs.lemmas.FieldsAgain.{part_again}
use Rattle.mqb_heads.specs.lemmas.ReadLaws.{bind_ok, if_ok, unless_ok, name_read, flags_word, names_in_turn}
use Rattle.mqb_packet.specs.Forms.{Free, Number, GuidForm, NameForm, OptionalForm, Padded}
use Rattle.mqb_packet.specs.Grammar.{kind_or_none, UserFlags, UserFields, UserForm}
use Rattle.mqb_packet.proofs.Steps.{ok_is, Took, ◌&◌, in_form, Gives, gives_then, gives_last, Opened, opened, moved_twice}
use Rattle.mqb_packet.proofs.Fields.{field_took, skip_took, lent_took, source_took, field_gives, skip_passes, lent_gives, source_gives}

pub name_took : (kind : ℕ) (r : Reading) (x : WireName × Reading) → name_at kind r ≡ Ok x → (x.0.kind ≡ kind) × Took (NameForm x.0) r x.1
name_took kind r x e =
    let found = bind_ok (in_name r.at (wire_at kind (rest_of r))) _ x e in
    let part = bind_ok (lent_at found.0 r) _ x found.2 in
    let form = name_read kind r x.0 x.1 e in
    let is = ok_is _ x part.2 in (
      sym (ap (λ (x : WireName × Reading). x.0.kind) is),
      subst (λ (end : Reading). Took (NameForm x.0) r end) (ap (λ (x : WireName × Reading). x.1) is)
          (in_form (λ bytes read. (read.0 ∙ ap (λ (x : WireName × Reading). x.0.part) is, form)) (lent_took found.0 r part.0 part.1)),
    )

some_took : (kind : ℕ) (r : Reading) (read : Result (WireName × Reading) HeadFault) (x : Option WireName × Reading)
    → ((n : WireName × Reading) → read ≡ Ok n → (n.0.kind ≡ kind) × Took (NameForm n.0) r n.1) → some_name read ≡ Ok x
    → (kind_or_none x.0 ≡ kind) × Took (OptionalForm NameForm x.0) r x.1
some_took kind r (Ok n) x took e =
    subst (λ (x : Option WireName × Reading). (kind_or_none x.0 ≡ kind) × Took (OptionalForm NameForm x.0) r x.1) (ok_is (Some n.0, n.1) x e) (took n refl)
some_took kind r (Err d) x took e = absurd cc

pub nothing_took : (r : Reading) → Took (Exactly []) r r
nothing_took r = record { part = []; split = refl; form = refl; moves = ap (λ (at : ℕ). record r { at = at }) (omega arith) }

optional_took : (kind : ℕ) (r : Reading) (x : Option WireName × Reading) → optional_name_at kind r ≡ Ok x
    → (kind_or_none x.0 ≡ kind) × Took (OptionalForm NameForm x.0) r x.1
optional_took kind r x e = elim (kind == 0) as (λ v. (kind == 0) ≡ v → cond v (Ok (None, r)) (some_name (name_at kind r)) ≡ Ok x → (kind_or_none x.0 ≡ kind) × Took (OptionalForm NameForm x.0) r x.1) [
  | true ↦ λ none read. subst (λ (x : Option WireName × Reading). (kind_or_none x.0 ≡ kind) × Took (OptionalForm NameForm x.0) r x.1) (ok_is (None, r) x read) (sym (eqb-true _ _ none), nothing_took r)
  | false ↦ λ some read. some_took kind r (name_at kind r) x (λ n is. name_took kind r n is) read
] refl e

pub names_took : (one two three : ℕ) (r first second end : Reading) (names : Names) → name_at one r ≡ Ok (names.destination, first)
    → optional_name_at two first ≡ Ok (names.admin, second) → optional_name_at three second ≡ Ok (names.response, end)
    → Took (NameForm names.destination then OptionalForm NameForm names.admin then OptionalForm NameForm names.response) r end
names_took one two three r first second end names a b c =
    (name_took one r (names.destination, first) a).1 & (optional_took two first (names.admin, second) b).1 & (optional_took three second (names.response, end) c).1

-- a header and its padding
pub padded_took : {Form : List ℕ → Type 0} {r middle end : Reading} → Took Form r middle → padded_at r.at middle ≡ Ok end → Took (Padded Form) r end
padded_took {Form = Form} {r = r} {middle = middle} {end = end} head e =
    let pad = skip_took (padding (middle.at - r.at)) middle end e in
    let len : middle.at - r.at ≡ length head.part = ap (λ (m : Reading). m.at - r.at) head.moves ∙ omega arith in
    let both = head & pad in
    record { part = both.part; split = both.split; form = (head.part, pad.part, refl, head.form, pad.form ∙ ap padding len); moves = both.moves }

pub user_took : (r : Reading) (x : User × Reading) → user_at r ≡ Ok x → Took (UserForm x.0) r x.1
unfolding user_at
user_took r x e =
    let source = bind_ok (source_at r) _ x e in
    let target = bind_ok (source_at source.0.1) _ x source.2 in
    let life = bind_ok (field_at 4 target.0.1) _ x target.2 in
    let sent = bind_ok (field_at 4 life.0.1) _ x life.2 in
    let number = bind_ok (field_at 4 sent.0.1) _ x sent.2 in
    let flags = bind_ok (user_flags_at number.0.1) _ x number.2 in
    let names = bind_ok (names_at flags.0.0 flags.0.1) _ x flags.2 in
    let end = bind_ok (padded_at r.at names.0.1) _ x names.2 in
    let said = flags_word number.0.1 flags.0.0 flags.0.1 flags.1 in
    let turn = names_in_turn flags.0.0 flags.0.1 names.0.0 names.0.1 names.1 in
    let one = (name_took flags.0.0.destination flags.0.1 (names.0.0.destination, turn.behind_first) turn.destination).0 in
    let two = (optional_took flags.0.0.admin turn.behind_first (names.0.0.admin, turn.behind_second) turn.admin).0 in
    let three = (optional_took flags.0.0.response turn.behind_second (names.0.0.response, names.0.1) turn.response).0 in
    let named = names_took flags.0.0.destination flags.0.0.admin flags.0.0.response flags.0.1 turn.behind_first turn.behind_second names.0.1 names.0.0
    turn.destination turn.admin turn.response in
    subst (λ (x : User × Reading). Took (UserForm x.0) r x.1) (ok_is _ x end.2)
    (padded_took (in_form (λ bytes is. (
      said.word,
      record {
        recoverable = said.recoverable;
        transaction = said.transaction;
        destination = one ∙ said.destination;
        admin = two ∙ said.admin;
        response = three ∙ said.response;
        journal = said.journal;
        security = said.security;
      },
      is,
    ))
    (source_took r source.0 source.1 & source_took source.0.1 target.0 target.1 & field_took 4 target.0.1 life.0 life.1 & field_took 4 life.0.1 sent.0 sent.1
    & field_took 4 sent.0.1 number.0 number.1 & field_took 4 number.0.1 (said.word, flags.0.1) said.read & named)) end.1)

pub name_gives : (name : WireName) → Gives (name_at name.kind) (NameForm name) name
name_gives name r bytes rest e (is, valid) =
    let part = name.part in
    let here : rest_of r ≡ part ++ rest = e ∙ ap (λ (t : List ℕ). t ++ rest) is in
    let sized : length_at name.kind (part ++ rest) ≡ Ok (length part) = length_more name.kind part rest (length part) valid.0 in
    let enough : ltb (length (part ++ rest)) (length part) ≡ false = le-ltb _ _ (omega (arith, length-append part rest)) in
    let front : take (length part) (part ++ rest) ≡ part = take_at part rest (length part) refl in
    let some : is_some (spelled name.kind part) ≡ true = valid.1 in
    let found : wire_at name.kind (rest_of r) ≡ Ok (length part) = ap (wire_at name.kind) here ∙ rw (sized, enough, front, some) refl in
    rw (found, lent_gives (length part) part refl r part rest here refl) (ap (λ (t : List ℕ). Ok (name, moved (length t) r)) (sym is))

typed : (name : WireName) → IsWireForm name.kind name.part → (name.kind == 0) ≡ false
typed name valid = let within = kind_within name.kind name.part (length name.part) valid.0 in ne_eqb _ _ (λ none. absurd (omega (arith, none, within.0)))

pub optional_gives : (name : Option WireName) → Gives (optional_name_at (kind_or_none name)) (OptionalForm NameForm name) name
optional_gives None r bytes rest e none = ap (λ (end : Reading). Ok (None, end)) (ap (λ (at : ℕ). record r { at = at }) (omega (arith, ap length none)))
optional_gives (Some name) r bytes rest e form = rw (typed name form.1, name_gives name r bytes rest e form) refl

few_kinds : (name : WireName) → IsWireForm name.kind name.part → (1 ≤ name.kind) × (name.kind ≤ 3)
few_kinds name valid = kind_within name.kind name.part (length name.part) valid.0

few_or_none : (name : Option WireName) (bytes : List ℕ) → OptionalForm NameForm name bytes → kind_or_none name ≤ 3
few_or_none None bytes form = omega arith
few_or_none (Some name) bytes form = (few_kinds name form.1).1

flags_gives : (word : ℕ) → bit 13 word ≡ false → have_types (flags_of word) ≡ true → Gives user_flags_at (Number 4 word) (flags_of word)
flags_gives word plain types r bytes rest e form = rw (field_gives 4 word r bytes rest e form, plain, types) refl

names_give : (user : User) (word : ℕ) → UserFlags word user
    → Gives (names_at (flags_of word)) (NameForm user.destination then OptionalForm NameForm user.admin then OptionalForm NameForm user.response)
    (record { destination = user.destination; admin = user.admin; response = user.response })
names_give user word said =
    let names : Names = record { destination = user.destination; admin = user.admin; response = user.response } in
    gives_then (name_at (bits 2 3 word)) _ (NameForm user.destination) _ user.destination names
    (λ r bytes rest e form. ap (λ (k : ℕ). name_at k r) (sym said.destination) ∙ name_gives user.destination r bytes rest e form)
    (gives_then (optional_name_at (bits 5 3 word)) _ (OptionalForm NameForm user.admin) _ user.admin names
    (λ r bytes rest e form. ap (λ (k : ℕ). optional_name_at k r) (sym said.admin) ∙ optional_gives user.admin r bytes rest e form)
    (gives_last (optional_name_at (bits 8 3 word)) (λ (response : Option WireName). record { destination = user.destination; admin = user.admin; response = response })
    (OptionalForm NameForm user.response) user.response
    (λ r bytes rest e form. ap (λ (k : ℕ). optional_name_at k r) (sym said.response) ∙ optional_gives user.response r bytes rest e form)))

pub padded_passes : (r : Reading) (head pad rest : List ℕ) → rest_of (moved (length head) r) ≡ pad ++ rest → length pad ≡ padding (length head)
    → padded_at r.at (moved (length head) r) ≡ Ok (moved (length pad) (moved (length head) r))
padded_passes r head pad rest e len =
    let place : (moved (length head) r).at - r.at ≡ length head = omega arith in
    ap (λ (n : ℕ). skipped (padding n) (moved (length head) r)) place ∙ skip_passes (padding (length head)) (moved (length head) r) pad rest e len

pub user_gives : (user : User) → Gives user_at (UserForm user) user
unfolding user_at
user_gives user r bytes rest e (head, pad, whole, (word, said, form), len) =
    let tail = pad ++ rest in
    let all = opened r bytes rest head pad e whole in
    let source = opened r head tail form.0 form.1 all.here form.2 in
    let r1 = moved (length form.0) r in
    let f1 = form.4 in
    let target = opened r1 form.1 tail f1.0 f1.1 source.behind f1.2 in
    let r2 = moved (length f1.0) r1 in
    let f2 = f1.4 in
    let life = opened r2 f1.1 tail f2.0 f2.1 target.behind f2.2 in
    let r3 = moved (length f2.0) r2 in
    let f3 = f2.4 in
    let sent = opened r3 f2.1 tail f3.0 f3.1 life.behind f3.2 in
    let r4 = moved (length f3.0) r3 in
    let f4 = f3.4 in
    let number = opened r4 f3.1 tail f4.0 f4.1 sent.behind f4.2 in
    let r5 = moved (length f4.0) r4 in
    let f5 = f4.4 in
    let flags = opened r5 f4.1 tail f5.0 f5.1 number.behind f5.2 in
    let r6 = moved (length f5.0) r5 in
    let names = f5.4 in
    let first = few_kinds user.destination names.3.1 in
    let second = few_or_none user.admin names.4.0 names.4.3 in
    let third = few_or_none user.response names.4.1 names.4.4 in
    let types : have_types (flags_of word) ≡ true =
    rw (
      le-leb _ _ (subst (λ (k : ℕ). 1 ≤ k) said.destination first.0),
      le-leb _ _ (subst (λ (k : ℕ). k ≤ 3) said.destination first.1),
      le-leb _ _ (subst (λ (k : ℕ). k ≤ 3) said.admin second),
      le-leb _ _ (subst (λ (k : ℕ). k ≤ 3) said.response third),
    ) refl in
    let named = names_give user word said r6 f5.1 tail flags.behind names in
    let ends : moved (length f5.1) r6 ≡ moved (length head) r = flags.ends ∙ number.ends ∙ sent.ends ∙ life.ends ∙ target.ends ∙ source.ends in
    let padded : padded_at r.at (moved (length f5.1) r6) ≡ Ok (moved (length pad) (moved (length head) r)) =
    ap (padded_at r.at) ends ∙ padded_passes r head pad rest all.behind len in
    rw (
      source_gives user.source r form.0 (form.1 ++ tail) source.here form.3,
      source_gives user.target r1 f1.0 (f1.1 ++ tail) target.here f1.3,
      field_gives 4 user.life r2 f2.0 (f2.1 ++ tail) life.here f2.3,
      field_gives 4 user.sent r3 f3.0 (f3.1 ++ tail) sent.here f3.3,
      field_gives 4 user.number r4 f4.0 (f4.1 ++ tail) number.here f4.3,
      flags_gives word said.security types r5 f5.0 (f5.1 ++ tail) flags.here f5.3,
      named,
      padded,
      ← said.recoverable,
      ← said.transaction,
      ← said.journal,
    ) (ap (λ (end : Reading). Ok (user, end)) all.ends)
