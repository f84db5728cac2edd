-- The calls link, unlink and resend.
use Rattle.std.proofs.Common.{refl, sym, ap, subst, ◌∙◌, arith, length}
use Rattle.std.specs.List.{list_any, zip}
use Rattle.std.specs.Option.{option_map_or}
use Rattle.std.specs.Prelude.{[], ◌+◌, ◌∷◌, ◌||◌, ◌≡◌, Bool, Err, List, None, Ok, Option, Result, Some, false, if◌then◌else◌, is_none, is_some, map, slice_get, true, ℕ}
use Rattle.mqb_journal.specs.States.{JournalState}
use Rattle.mqb_model.specs.Lists.{grown}
use Rattle.mqb_model.specs.calls.Link.{begun_anew, link, link_refusal, linking, resend, rewound, session_for, unlink}
use Rattle.mqb_model.specs.declared.answers.Role.{Role}
use Rattle.mqb_model.specs.declared.faults.LinkFault.{LinkFault}
use Rattle.mqb_model.specs.declared.faults.LinkFault.TheVariants as fault
use Rattle.mqb_model.specs.laws.Keeping.{LinkedIsValid}
use Rattle.mqb_model.specs.laws.Validity.{ResentIsValid}
use Rattle.mqb_model.specs.managers.Beside.{beside_done}
use Rattle.mqb_model.specs.managers.Beside as beside
use Rattle.mqb_model.specs.managers.Manager.{Manager, linked_peer}
use Rattle.mqb_model.specs.managers.Readers.{awaits, has_plain, is_outstanding, is_outstanding_to}
use Rattle.mqb_model.specs.managers.Outcomes.{Outcome, resting, succeeded}
use Rattle.mqb_model.specs.managers.Valid.{IsValidManager}
use Rattle.mqb_model.specs.records.Applying.{lines_of}
use Rattle.mqb_orders.specs.Rows.{Row, row_of}
use Rattle.mqb_orders.specs.declared.rows.OutRow.{OutRow}
use Rattle.mqb_session.specs.State as one_end
use Rattle.mqb_store.specs.States.{StoreState}
use Rattle.mqb_manager.specs.Calls.{Succeeds}
use Rattle.mqb_manager.specs.Seen.{seen}
use Rattle.mqb_manager.specs.States.{ManagerState, condition_of, manager_of}
use Rattle.mqb_manager.proofs.Calls.{stays_same, unless_none, unless_some}
use Rattle.mqb_manager.proofs.Conditions.{down_is}
use Rattle.mqb_choosing.proofs.Rests.{anew_grown, anew_length, grown_again, grown_whole, within}

-- A manager whose store stays, by what it is.
quiet : {A : Type 0} (m n : ManagerState) (o : Outcome A) → o.entry ≡ None → n.store.lines ≡ m.store.lines → n.store.journal ≡ m.store.journal
    → manager_of n ≡ succeeded (manager_of m) o → Succeeds m n o
quiet m n o none lines journal is = record {
  manager = is;
  lines = subst (λ r. n.store.lines ≡ option_map_or (lines_of m.store.state) r m.store.lines) (sym none) lines;
  count = subst (λ r. n.store.journal.count ≡ m.store.journal.count + option_map_or (λ _. 1) r 0) (sym none)
      (let same = ap (λ (j : JournalState). j.count) journal in omega (arith, same));
  guid = ap (λ (j : JournalState). j.guid) journal;
}

-- A call that is refused.
pub refused_left : (m : ManagerState) (role : Role) (window : ℕ) (why : LinkFault) → IsValidManager (manager_of m) → link_refusal (manager_of m) role window ≡ Some why
    → Succeeds m m (link (manager_of m) role window)
refused_left m role window why valid refused =
    let is = unless_some (manager_of m) (link_refusal (manager_of m) role window) why (linking (manager_of m) role window) refused in
    quiet m m (link (manager_of m) role window) (ap (λ o. o.entry) is) refl refl
    (stays_same {A = Result (Unit {0}) LinkFault} (manager_of m) (Err why) valid ∙ ap (λ o. succeeded (manager_of m) o) (sym is))

-- A session begins.

pub linked_answer : (m : Manager) (role : Role) (window : ℕ) → link_refusal m role window ≡ None → Ok tt ≡ (link m role window).answer
linked_answer m role window none = ap (λ o. o.answer) (sym (unless_none m (link_refusal m role window) (linking m role window) none))

module _ (w : StoreState) (session : Option one_end.State) (cs : List ℕ) (os : List Bool) where
  abbrev m : ManagerState
  m = seen w session cs os

  again : (s : Option one_end.State) → manager_of (seen w s cs os) ≡ succeeded (manager_of m) (resting {A = Unit {0}} (manager_of m) (record (manager_of m).rest { session = s }) tt)
  again s = let outs = length w.state.outs in let ins = length w.state.ins in
      ap (λ (ns : List ℕ). record {
        state = w.state;
        rest = record { session = s; cursors = ns; owes = grown false ins os };
        condition = condition_of w;
      }) (sym (grown_again 0 outs outs cs (omega arith)))
      ∙ ap (λ (bs : List Bool). record {
        state = w.state;
        rest = record { session = s; cursors = grown 0 outs (grown 0 outs cs); owes = bs };
        condition = condition_of w;
      }) (sym (grown_again false ins ins os (omega arith)))

  pub linked_manager : (role : Role) (window : ℕ) (s : one_end.State) → link_refusal (manager_of m) role window ≡ None → session_for w.state role window ≡ Some s
      → manager_of (seen w (Some s) cs os) ≡ succeeded (manager_of m) (link (manager_of m) role window)
  linked_manager role window s none begins =
      again (Some s)
      ∙ ap (λ (t : Option one_end.State). succeeded (manager_of m) (resting {A = Unit {0}} (manager_of m) (record (manager_of m).rest { session = t }) tt)) (sym begins)
      ∙ ap (λ o. succeeded (manager_of m) o) (sym (unless_none (manager_of m) (link_refusal (manager_of m) role window) (linking (manager_of m) role window) none))

  pub linked_left : (role : Role) (window : ℕ) (s : one_end.State) → link_refusal (manager_of m) role window ≡ None → session_for w.state role window ≡ Some s
      → Succeeds m (seen w (Some s) cs os) (link (manager_of m) role window)
  linked_left role window s none begins =
      quiet m (seen w (Some s) cs os) (link (manager_of m) role window)
      (ap (λ o. o.entry) (unless_none (manager_of m) (link_refusal (manager_of m) role window) (linking (manager_of m) role window) none)) refl refl
      (linked_manager role window s none begins)

  pub linked_valid : (role : Role) (window : ℕ) (s : one_end.State) → IsValidManager (succeeded (manager_of m) (link (manager_of m) role window))
      → link_refusal (manager_of m) role window ≡ None → session_for w.state role window ≡ Some s → IsValidManager (manager_of (seen w (Some s) cs os))
  linked_valid role window s valid none begins = subst IsValidManager (sym (linked_manager role window s none begins)) valid

  not_refused : (role : Role) (window : ℕ) (s : one_end.State) → w.journal.down ≡ false → is_some session ≡ false → session_for w.state role window ≡ Some s
      → link_refusal (manager_of m) role window ≡ None
  not_refused role window s up free begins =
      ap (λ b. if b then Some fault.Down else if is_some session then Some fault.Linked
      else if is_none (session_for w.state role window) then Some fault.NoPeer else None) (down_is m ∙ up)
      ∙ ap (λ b. if b then Some fault.Linked else if is_none (session_for w.state role window) then Some fault.NoPeer else None) free
      ∙ ap (λ (t : Option one_end.State). if is_none t then Some fault.NoPeer else None) begins

  pub link_valid : LinkedIsValid → (role : Role) (window : ℕ) (s : one_end.State) → IsValidManager (manager_of m) → w.journal.down ≡ false → is_some session ≡ false
      → session_for w.state role window ≡ Some s → IsValidManager (manager_of (seen w (Some s) cs os))
  link_valid law role window s valid up free begins =
      linked_valid role window s (law (manager_of m) role window valid) (not_refused role window s up free begins) begins

  pub link_left : (whole : ManagerState) → m ≡ whole → (role : Role) (window : ℕ) (s : one_end.State) → w.journal.down ≡ false → is_some session ≡ false
      → session_for w.state role window ≡ Some s → Succeeds whole (seen w (Some s) cs os) (link (manager_of whole) role window)
  link_left whole is role window s up free begins =
      subst (λ (k : ManagerState). Succeeds k (seen w (Some s) cs os) (link (manager_of k) role window)) is
      (linked_left role window s (not_refused role window s up free begins) begins)

  pub link_answer : (whole : ManagerState) → m ≡ whole → (role : Role) (window : ℕ) (s : one_end.State) → w.journal.down ≡ false → is_some session ≡ false
      → session_for w.state role window ≡ Some s → Ok tt ≡ (link (manager_of whole) role window).answer
  link_answer whole is role window s up free begins =
      subst (λ (k : ManagerState). Ok tt ≡ (link (manager_of k) role window).answer) is
      (linked_answer (manager_of m) role window (not_refused role window s up free begins))

  -- It is refused.

  down_refused : (role : Role) (window : ℕ) → w.journal.down ≡ true → link_refusal (manager_of m) role window ≡ Some fault.Down
  down_refused role window down =
      ap (λ b. if b then Some fault.Down else if is_some session then Some fault.Linked
      else if is_none (session_for w.state role window) then Some fault.NoPeer else None) (down_is m ∙ down)

  pub down_left : (whole : ManagerState) → m ≡ whole → (role : Role) (window : ℕ) → IsValidManager (manager_of m) → w.journal.down ≡ true
      → Succeeds whole whole (link (manager_of whole) role window)
  down_left whole is role window valid down = subst (λ (k : ManagerState). Succeeds k k (link (manager_of k) role window)) is
      (refused_left m role window fault.Down valid (down_refused role window down))

  pub busy_left : (whole : ManagerState) → m ≡ whole → (role : Role) (window : ℕ) → IsValidManager (manager_of m) → w.journal.down ≡ false → is_some session ≡ true
      → Succeeds whole whole (link (manager_of whole) role window)
  busy_left whole is role window valid up busy = subst (λ (k : ManagerState). Succeeds k k (link (manager_of k) role window)) is
      (refused_left m role window fault.Linked valid (
      ap (λ b. if b then Some fault.Down else if is_some session then Some fault.Linked
      else if is_none (session_for w.state role window) then Some fault.NoPeer else None) (down_is m ∙ up)
      ∙ ap (λ b. if b then Some fault.Linked else if is_none (session_for w.state role window) then Some fault.NoPeer else None) busy))

  pub alone_left : (whole : ManagerState) → m ≡ whole → (role : Role) (window : ℕ) → IsValidManager (manager_of m) → w.journal.down ≡ false → is_some session ≡ false
      → session_for w.state role window ≡ None → Succeeds whole whole (link (manager_of whole) role window)
  alone_left whole is role window valid up free none = subst (λ (k : ManagerState). Succeeds k k (link (manager_of k) role window)) is
      (refused_left m role window fault.NoPeer valid (
      ap (λ b. if b then Some fault.Down else if is_some session then Some fault.Linked
      else if is_none (session_for w.state role window) then Some fault.NoPeer else None) (down_is m ∙ up)
      ∙ ap (λ b. if b then Some fault.Linked else if is_none (session_for w.state role window) then Some fault.NoPeer else None) free
      ∙ ap (λ (t : Option one_end.State). if is_none t then Some fault.NoPeer else None) none))

  -- The connection ends.

  abbrev unmarked : StoreState
  unmarked = record w { state = beside_done beside.Unmarks w.state }

  pub unlinked_left : (x : StoreState) → x ≡ unmarked → Succeeds m (seen x None [] []) (unlink (manager_of m))
  unlinked_left x is = subst (λ (x : StoreState). Succeeds m (seen x None [] []) (unlink (manager_of m))) (sym is)
      (quiet m (seen unmarked None [] []) (unlink (manager_of m)) refl refl refl refl)

  pub unlinked_valid : (x : StoreState) → x ≡ unmarked → IsValidManager (succeeded (manager_of m) (unlink (manager_of m))) → IsValidManager (manager_of (seen x None [] []))
  unlinked_valid x is valid = subst (λ (x : StoreState). IsValidManager (manager_of (seen x None [] []))) (sym is) valid

-- The same of a manager that is these parts.

-- It is sent anew.

module _ (w : StoreState) (session : one_end.State) (peer : ℕ) (cs : List ℕ) (os : List Bool) where
  abbrev k : ManagerState
  k = seen w (Some session) cs os

  abbrev rewound_k : ManagerState
  rewound_k = seen w (Some session) (map (begun_anew peer) (zip w.state.outs cs)) os

  pub resent_manager : IsValidManager (manager_of k) → peer ≡ linked_peer w.state session → manager_of rewound_k ≡ succeeded (manager_of k) (resend (manager_of k))
  resent_manager valid leads = let outs = length w.state.outs in let ins = length w.state.ins in
      let anew = map (begun_anew peer) (zip w.state.outs (grown 0 outs cs)) in
      ap (λ (ns : List ℕ). record {
        state = w.state;
        rest = record { session = Some session; cursors = ns; owes = grown false ins os };
        condition = condition_of w;
      }) (anew_grown peer w.state.outs cs (within 0 outs cs valid.cursors) ∙ sym (grown_whole 0 outs anew (anew_length peer w.state.outs (grown 0 outs cs) valid.cursors)))
      ∙ ap (λ (bs : List Bool). record {
        state = w.state;
        rest = record { session = Some session; cursors = grown 0 outs anew; owes = bs };
        condition = condition_of w;
      }) (sym (grown_again false ins ins os (omega arith)))
      ∙ ap (λ (p : ℕ). succeeded (manager_of k) (resting {A = Unit {0}} (manager_of k) (rewound w.state p (manager_of k).rest) tt)) leads

  pub resent_left : IsValidManager (manager_of k) → peer ≡ linked_peer w.state session → Succeeds k rewound_k (resend (manager_of k))
  resent_left valid leads = quiet k rewound_k (resend (manager_of k)) refl refl refl (resent_manager valid leads)

  pub resent_valid : IsValidManager (manager_of k) → IsValidManager (succeeded (manager_of k) (resend (manager_of k))) → peer ≡ linked_peer w.state session
      → IsValidManager (manager_of rewound_k)
  resent_valid valid after leads = subst IsValidManager (sym (resent_manager valid leads)) after

-- The same of a manager that is these parts.

pub anew_left : (whole : ManagerState) (w : StoreState) (session : Option one_end.State) (end : one_end.State) (peer : ℕ) (cs ns : List ℕ) (os : List Bool)
    → seen w session cs os ≡ whole → session ≡ Some end → IsValidManager (manager_of (seen w session cs os)) → peer ≡ linked_peer w.state end
    → ns ≡ map (begun_anew peer) (zip w.state.outs cs) → Succeeds whole (seen w session ns os) (resend (manager_of whole))
anew_left whole w session end peer cs ns os is linked valid leads anew =
    let mine = subst (λ (s : Option one_end.State). IsValidManager (manager_of (seen w s cs os))) linked valid in
    subst (λ (k : ManagerState). Succeeds k (seen w session ns os) (resend (manager_of k))) is
    (subst (λ (s : Option one_end.State). Succeeds (seen w s cs os) (seen w s ns os) (resend (manager_of (seen w s cs os)))) (sym linked)
    (subst (λ (ms : List ℕ). Succeeds (seen w (Some end) cs os) (seen w (Some end) ms os) (resend (manager_of (seen w (Some end) cs os)))) (sym anew)
    (resent_left w end peer cs os mine leads)))

pub anew_valid : ResentIsValid → (w : StoreState) (session : Option one_end.State) (end : one_end.State) (peer : ℕ) (cs ns : List ℕ) (os : List Bool)
    → session ≡ Some end → IsValidManager (manager_of (seen w session cs os)) → peer ≡ linked_peer w.state end
    → ns ≡ map (begun_anew peer) (zip w.state.outs cs) → IsValidManager (manager_of (seen w session ns os))
anew_valid law w session end peer cs ns os linked valid leads anew =
    let mine = subst (λ (s : Option one_end.State). IsValidManager (manager_of (seen w s cs os))) linked valid in
    subst (λ (s : Option one_end.State). IsValidManager (manager_of (seen w s ns os))) (sym linked)
    (subst (λ (ms : List ℕ). IsValidManager (manager_of (seen w (Some end) ms os))) (sym anew)
    (resent_valid w end peer cs os mine (law (manager_of (seen w (Some end) cs os)) mine) leads))

-- Rows.

pub any_row : (p : Row → Bool) (rows : List OutRow) → list_any (λ r. p (row_of r)) rows ≡ list_any p (map row_of rows)
any_row p [] = refl
any_row p (r ∷ rows) = ap (λ b. p (row_of r) || b) (any_row p rows)

-- Where no plain message waits for the peer, something is outstanding where a row has it.
pub outstanding_is : (whole : ManagerState) (w : StoreState) (session : Option one_end.State) (end : one_end.State) (peer : ℕ) (cs : List ℕ) (os : List Bool) (any : Bool)
    → seen w session cs os ≡ whole → session ≡ Some end → peer ≡ linked_peer w.state end → option_map_or has_plain (slice_get w.state.plain peer) false ≡ false
    → any ≡ list_any (awaits peer) w.state.outs → any ≡ is_outstanding (manager_of whole)
outstanding_is whole w session end peer cs os any is linked leads none found =
    subst (λ (k : ManagerState). any ≡ is_outstanding (manager_of k)) is
    (subst (λ (s : Option one_end.State). any ≡ is_outstanding (manager_of (seen w s cs os))) (sym linked)
    (found ∙ ap (λ (b : Bool). b || list_any (awaits peer) w.state.outs) (sym none) ∙ ap (λ (p : ℕ). is_outstanding_to w.state p) leads))
