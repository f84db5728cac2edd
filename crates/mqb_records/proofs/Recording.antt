-- Steps that were tried in turn are a record that fits; and where one does not fit, the record does not.
use Rattle.std.proofs.Common.{refl, ap, sym, subst, ◌∙◌, arith}
use Rattle.std.specs.List.{cons_option}
use Rattle.std.specs.Option.{option_map_or}
use Rattle.std.specs.Prelude.{◌*◌, ◌+◌, ◌∷◌, ◌≡◌, ◌≤◌, [], Bool, Err, List, None, Ok, OnOk, Option, Result, Some, cond, false, fold, length, option_and_then, option_map, true, ℕ}
use Rattle.mqb_entries.specs.declared.members.Mark.{Mark}
use Rattle.mqb_entries.specs.declared.members.OpView.{OpView}
use Rattle.mqb_entries.specs.declared.members.OpView.TheVariants as view
use Rattle.mqb_base.specs.declared.ledger.Line.{Line}
use Rattle.mqb_packet.specs.declared.packet.UserPacket.{UserPacket}
use Rattle.mqb_model.specs.laws.Stepwise.{StepwiseIsEffect}
use Rattle.mqb_model.specs.records.Reading.{user_packet_of}
use Rattle.mqb_model.specs.records.Applying.{fits}
use Rattle.mqb_model.specs.records.Arrived.{part_fits, part_made}
use Rattle.mqb_model.specs.records.Commit.{sends_fit, sends_numbered, sends_of}
use Rattle.mqb_model.specs.records.Counting.{named_in}
use Rattle.mqb_model.specs.records.Record as entry
use Rattle.mqb_model.specs.records.Record.{Part, Record, RecordOp}
use Rattle.mqb_model.specs.records.Releases.{message_released, release_fits, releases_made}
use Rattle.mqb_model.specs.records.Stepwise.{commit_stepwise, marks_stepwise, part_stepwise, releases_stepwise, sends_stepwise, takes_stepwise}
use Rattle.mqb_model.specs.rules.Effects.{Effect, begun, joined, without_line}
use Rattle.mqb_model.specs.rules.Numbers.{numbers_taken}
use Rattle.mqb_model.specs.state.State.{State}
use Rattle.mqb_records.specs.Applied.{IsApplied, IsFew}
use Rattle.mqb_records.specs.Ops.{packets_fit, packets_shown, record_shown, sends_tried, takes_in, takes_tried}
use Rattle.mqb_arrivals.specs.Parts.{IsFewOf, IsPartMade, is_part_fit}
use Rattle.mqb_records.specs.Unfit.{is_fit}
use Rattle.mqb_records.proofs.Framing.{joined_begun}
use Rattle.mqb_records.proofs.Reading.{ops_count, packets_are, sends_count, sends_shown, shown, takes_are}
use Rattle.mqb_records.proofs.Stepping.{fits_of, part_frames, releases_frame, sends_frame, takes_frame, unfit_of}

-- what was behind other things
behind : (e after : Effect) (o : Option Effect) → option_map (joined e) o ≡ Some after → (y : Effect) × (o ≡ Some y) × (joined e y ≡ after)
behind e after None h = absurd (let none : ⊥ = cc in none)
behind e after (Some y) h = (y, refl, ap (λ o. option_map_or (λ x. x) o after) h)

behind_none : (e : Effect) (o : Option Effect) → option_map (joined e) o ≡ None → o ≡ None
behind_none e None h = refl
behind_none e (Some y) h = absurd (let none : ⊥ = cc in none)

-- Offers.

abbrev with_lines : State → List Line → Effect
with_lines s ls = record { state = s; lines = ls }

pub offered_applied : StepwiseIsEffect → (e after : Effect) (marks : List Mark) → marks_stepwise e.state marks ≡ Some after.state → after.lines ≡ e.lines
    → IsApplied e (Some (entry.Offered marks)) after
offered_applied law e after marks h same =
    let made = fits_of law e.state (entry.Offered marks) (begun after.state) (ap (option_map begun) h) in
    (made.0, ap (with_lines after.state) same ∙ (sym (joined_begun e after.state) ∙ ap (joined e) (sym made.1)))

pub offered_unfit : StepwiseIsEffect → (s : State) (marks : List Mark) → marks_stepwise s marks ≡ None → fits s (entry.Offered marks) ≡ false
offered_unfit law s marks h = unfit_of law s (entry.Offered marks) (ap (option_map begun) h)

-- Arrivals.

releases_fold : (x y : Effect) (ns : List ℕ) → releases_stepwise x ns ≡ Some y → fold message_released x ns ≡ y
releases_fold x y [] h = ap (λ o. option_map_or (λ e. e) o y) h
releases_fold x y (n ∷ ns) h = at (release_fits x.state n) (λ g. releases_fold (message_released x n) y ns g) h
  where
    at : (b : Bool) → (releases_stepwise (message_released x n) ns ≡ Some y → fold message_released (message_released x n) ns ≡ y)
        → cond b (releases_stepwise (message_released x n) ns) None ≡ Some y → fold message_released (message_released x n) ns ≡ y
    at true rest h = rest h
    at false rest h = absurd (let none : ⊥ = cc in none)

-- releases by themselves
released : (e : Effect) (ns : List ℕ) → releases_stepwise e ns ≡ option_map (joined e) (releases_stepwise (begun e.state) ns)
released e ns = ap (λ x. releases_stepwise x ns) (sym (joined_begun e e.state)) ∙ releases_frame e (begun e.state) ns

step_made : (now : ℕ) (y : Effect) (part : Part) → part_fits y.state part ≡ true → part_stepwise now y part ≡ Some (part_made now y part)
step_made now y part h = ap (λ b. cond b (Some (part_made now y part)) None) h

step_unfit : (now : ℕ) (y : Effect) (part : Part) → part_fits y.state part ≡ false → part_stepwise now y part ≡ None
step_unfit now y part h = ap (λ b. cond b (Some (part_made now y part)) None) h

pub arrived_applied : StepwiseIsEffect → (now : ℕ) (e mid after : Effect) (ns : List ℕ) (part : Option Part) → releases_stepwise e ns ≡ Some mid → IsPartMade now mid part after
    → IsApplied e (option_map (λ p. entry.Arrived now ns p) part) after
arrived_applied law now e mid after ns None h made = made
arrived_applied law now e mid after ns (Some part) h made =
    let b = behind e mid (releases_stepwise (begun e.state) ns) (sym (released e ns) ∙ h) in
    let y : Effect = b.0 in
    let fit : part_fits y.state part ≡ true = ap (λ (x : Effect). part_fits x.state part) b.2 ∙ made.0 in
    let f = fits_of law e.state (entry.Arrived now ns part) (part_made now y part) (ap (option_and_then (λ x. part_stepwise now x part)) b.1 ∙ step_made now y part fit) in
    (f.0, made.1 ∙ (ap (λ x. part_made now x part) (sym b.2) ∙ (part_frames now e y part ∙ ap (joined e) (sym f.1))))

pub arrived_few : (now : ℕ) (e mid : Effect) (ns : List ℕ) (part : Option Part) (before between after : ℕ) → releases_stepwise e ns ≡ Some mid → between ≤ before
    → IsFewOf mid.state part between after → IsFew e.state (option_map (λ p. entry.Arrived now ns p) part) before after
arrived_few now e mid ns None before between after h le few = few
arrived_few now e mid ns (Some part) before between after h le few =
    let b = behind e mid (releases_stepwise (begun e.state) ns) (sym (released e ns) ∙ h) in
    let same : (releases_made e.state ns).state ≡ mid.state = ap (λ (x : Effect). x.state) (releases_fold (begun e.state) b.0 ns b.1) ∙ ap (λ (x : Effect). x.state) b.2 in
    let count : named_in (releases_made e.state ns).state part ≡ named_in mid.state part = ap (λ s. named_in s part) same in
    bound (length ns) (named_in (releases_made e.state ns).state part) (named_in mid.state part) count few
  where
    bound : (n a c : ℕ) → a ≡ c → after ≤ between + 3 * c → after ≤ before + 3 * (n + a)
    bound n a c is few = omega (arith, le, is, few)

pub released_unfit : StepwiseIsEffect → (now : ℕ) (e : Effect) (ns : List ℕ) (part : Option Part) → releases_stepwise e ns ≡ None
    → is_fit e.state (option_map (λ p. entry.Arrived now ns p) part) ≡ false
released_unfit law now e ns None h = refl
released_unfit law now e ns (Some part) h = unfit_of law e.state (entry.Arrived now ns part)
    (ap (option_and_then (λ x. part_stepwise now x part)) (behind_none e (releases_stepwise (begun e.state) ns) (sym (released e ns) ∙ h)))

pub part_unfit : StepwiseIsEffect → (now : ℕ) (e mid : Effect) (ns : List ℕ) (part : Option Part) → releases_stepwise e ns ≡ Some mid → is_part_fit mid.state part ≡ false
    → is_fit e.state (option_map (λ p. entry.Arrived now ns p) part) ≡ false
part_unfit law now e mid ns None h un = refl
part_unfit law now e mid ns (Some part) h un =
    let b = behind e mid (releases_stepwise (begun e.state) ns) (sym (released e ns) ∙ h) in
    unfit_of law e.state (entry.Arrived now ns part) (ap (option_and_then (λ x. part_stepwise now x part)) b.1
    ∙ step_unfit now b.0 part (ap (λ (x : Effect). part_fits x.state part) b.2 ∙ un))

-- Transactions.

-- ops that fit show ops of a record
shows : (s : State) (ops : List OpView) → packets_fit s s.next_number ops ≡ true → (ros : List RecordOp) × (shown ops ≡ Some ros) × (sends_fit s s.next_number ros ≡ true)
shows s ops h = at (shown ops) refl (sym (packets_are s s.next_number ops) ∙ h)
  where
    at : (o : Option (List RecordOp)) → shown ops ≡ o → option_map_or (sends_fit s s.next_number) o false ≡ true
        → (ros : List RecordOp) × (shown ops ≡ Some ros) × (sends_fit s s.next_number ros ≡ true)
    at None is h = absurd (let none : ⊥ = cc in none)
    at (Some ros) is h = (ros, is, h)

pub packets_unfit : (now : ℕ) (s : State) (ops : List OpView) → packets_fit s s.next_number ops ≡ false → StepwiseIsEffect → is_fit s (record_shown now ops) ≡ false
packets_unfit now s ops h law = at (shown ops) (sym (packets_are s s.next_number ops) ∙ h)
  where
    at : (o : Option (List RecordOp)) → option_map_or (sends_fit s s.next_number) o false ≡ false → is_fit s (option_map (λ ops. entry.Commit now ops) o) ≡ false
    at None h = refl
    at (Some ros) h = unfit_of law s (entry.Commit now ros)
        (ap (λ b. cond b (option_and_then (λ e. sends_stepwise now e (sends_of ros)) (takes_stepwise now (sends_numbered s ros) ros)) None) h)

-- the numbers of the sends are taken, and it is a step like others
numbered : (e : Effect) (ros : List RecordOp) (n : ℕ) → n ≡ length (sends_of ros) → without_line e (numbers_taken e.state n) ≡ joined e (sends_numbered e.state ros)
numbered e ros n h = ap (λ n. without_line e (numbers_taken e.state n)) h ∙ sym (joined_begun e (numbers_taken e.state (length (sends_of ros))))

taken : (now : ℕ) (e first : Effect) (ops : List OpView) (ros : List RecordOp) → shown ops ≡ Some ros → first ≡ without_line e (numbers_taken e.state (length (packets_shown ops)))
    → takes_tried now first ops ≡ option_map (joined e) (takes_stepwise now (sends_numbered e.state ros) ros)
taken now e first ops ros is h = takes_are now first ops ros is
    ∙ (ap (λ x. takes_stepwise now x ros) (h ∙ numbered e ros (length (packets_shown ops)) (sends_count ops ros is)) ∙ takes_frame now e (sends_numbered e.state ros) ros)

sent : (now : ℕ) (e y : Effect) (ops : List OpView) (ros : List RecordOp) → shown ops ≡ Some ros
    → sends_tried now (joined e y) (packets_shown ops) ≡ option_map (joined e) (sends_stepwise now y (sends_of ros))
sent now e y ops ros is = ap (sends_stepwise now (joined e y)) (sends_shown ops ros is) ∙ sends_frame now e y (sends_of ros)

tried : (now : ℕ) (s : State) (ros : List RecordOp) → sends_fit s s.next_number ros ≡ true
    → commit_stepwise s now ros ≡ option_and_then (λ e. sends_stepwise now e (sends_of ros)) (takes_stepwise now (sends_numbered s ros) ros)
tried now s ros fit = ap (λ b. cond b (option_and_then (λ e. sends_stepwise now e (sends_of ros)) (takes_stepwise now (sends_numbered s ros) ros)) None) fit

pub commit_applied : StepwiseIsEffect → (now : ℕ) (e first mid after : Effect) (ops : List OpView) → packets_fit e.state e.state.next_number ops ≡ true
    → first ≡ without_line e (numbers_taken e.state (length (packets_shown ops))) → takes_tried now first ops ≡ Some mid → sends_tried now mid (packets_shown ops) ≡ Some after
    → IsApplied e (record_shown now ops) after
commit_applied law now e first mid after ops fit h takes sends =
    let r = shows e.state ops fit in
    let ros : List RecordOp = r.0 in
    let a = behind e mid (takes_stepwise now (sends_numbered e.state ros) ros) (sym (taken now e first ops ros r.1 h) ∙ takes) in
    let b = behind e after (sends_stepwise now a.0 (sends_of ros)) (sym (sent now e a.0 ops ros r.1) ∙ (ap (λ x. sends_tried now x (packets_shown ops)) a.2 ∙ sends)) in
    let f = fits_of law e.state (entry.Commit now ros) b.0
    (tried now e.state ros r.2 ∙ (ap (option_and_then (λ x. sends_stepwise now x (sends_of ros))) a.1 ∙ b.1)) in
    subst (λ (o : Option (List RecordOp)). IsApplied e (option_map (λ ops. entry.Commit now ops) o) after) (sym r.1)
    (f.0, sym b.2 ∙ ap (joined e) (sym f.1))

pub takes_unfit : StepwiseIsEffect → (now : ℕ) (e first : Effect) (ops : List OpView) → packets_fit e.state e.state.next_number ops ≡ true
    → first ≡ without_line e (numbers_taken e.state (length (packets_shown ops))) → takes_tried now first ops ≡ None → is_fit e.state (record_shown now ops) ≡ false
takes_unfit law now e first ops fit h takes =
    let r = shows e.state ops fit in
    let ros : List RecordOp = r.0 in
    let none = behind_none e (takes_stepwise now (sends_numbered e.state ros) ros) (sym (taken now e first ops ros r.1 h) ∙ takes) in
    ap (λ o. is_fit e.state (option_map (λ ops. entry.Commit now ops) o)) r.1
    ∙ unfit_of law e.state (entry.Commit now ros) (tried now e.state ros r.2 ∙ ap (option_and_then (λ x. sends_stepwise now x (sends_of ros))) none)

pub sends_unfit : StepwiseIsEffect → (now : ℕ) (e first mid : Effect) (ops : List OpView) → packets_fit e.state e.state.next_number ops ≡ true
    → first ≡ without_line e (numbers_taken e.state (length (packets_shown ops))) → takes_tried now first ops ≡ Some mid → sends_tried now mid (packets_shown ops) ≡ None
    → is_fit e.state (record_shown now ops) ≡ false
sends_unfit law now e first mid ops fit h takes sends =
    let r = shows e.state ops fit in
    let ros : List RecordOp = r.0 in
    let a = behind e mid (takes_stepwise now (sends_numbered e.state ros) ros) (sym (taken now e first ops ros r.1 h) ∙ takes) in
    let none = behind_none e (sends_stepwise now a.0 (sends_of ros)) (sym (sent now e a.0 ops ros r.1) ∙ (ap (λ x. sends_tried now x (packets_shown ops)) a.2 ∙ sends)) in
    ap (λ o. is_fit e.state (option_map (λ ops. entry.Commit now ops) o)) r.1
    ∙ unfit_of law e.state (entry.Commit now ros)
    (tried now e.state ros r.2 ∙ (ap (option_and_then (λ x. sends_stepwise now x (sends_of ros))) a.1 ∙ none))

ops_in : (ops : List OpView) → length (packets_shown ops) + takes_in ops ≤ length ops
ops_in [] = omega arith
ops_in (view.Take queue id ∷ ops) = let in_rest = ops_in ops in omega (arith, in_rest)
ops_in (view.Send bytes ∷ ops) = at (user_packet_of bytes) (ops_in ops)
  where
    at : (p : Option UserPacket) → length (packets_shown ops) + takes_in ops ≤ length ops
        → length (cons_option p (packets_shown ops)) + takes_in ops ≤ length (view.Send bytes ∷ ops)
    at None in_rest = omega (arith, in_rest)
    at (Some p) in_rest = omega (arith, in_rest)

pub commit_few : (now : ℕ) (s : State) (ops : List OpView) (before after : ℕ) → packets_fit s s.next_number ops ≡ true
    → after ≤ before + 3 * takes_in ops + 3 * length (packets_shown ops) → IsFew s (record_shown now ops) before after
commit_few now s ops before after fit few =
    let r = shows s ops fit in
    let whole : length ops ≡ length r.0 = ops_count ops r.0 r.1 in
    subst (λ (o : Option (List RecordOp)). IsFew s (option_map (λ ops. entry.Commit now ops) o) before after) (sym r.1)
    (bound (length (packets_shown ops)) (takes_in ops) (length ops) (length r.0) (ops_in ops) whole few)
  where
    bound : (a b c d : ℕ) → a + b ≤ c → c ≡ d → after ≤ before + 3 * b + 3 * a → after ≤ before + 3 * d
    bound a b c d le is few = omega (arith, le, is, few)

-- Answers of calls.

pub on_both : {A E P Q R : Type 0} (r : Result A E) → OnOk r P → OnOk r Q → (P → Q → R) → OnOk r R
on_both (Ok x) p q f = f p q
on_both (Err x) p q f = tt

pub tick_few : (before between after a b c : ℕ) → between ≤ before + 3 * a → c ≡ b → after ≤ between + 3 * c → after ≤ before + 3 * (a + b)
tick_few before between after a b c h e k = omega (arith, h, e, k)

pub commit_bound : (before first mid after takes sends : ℕ) → first ≤ before → mid ≤ first + 3 * takes → after ≤ mid + 3 * sends
    → after ≤ before + 3 * takes + 3 * sends
commit_bound before first mid after takes sends a b c = omega (arith, a, b, c)
