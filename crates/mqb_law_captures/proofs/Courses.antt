-- What holds of a manager and the events of its connection so far: they are lawful as far as they are its own doing, and what it knows fits them.
use Rattle.std.proofs.Common.{ap, sym, subst, ◌∙◌}
use Rattle.std.proofs.lemmas.List.Elements.{filter_map-append}
use Rattle.std.proofs.lemmas.List.Sums.{fold-append}
use Rattle.std.specs.List.{AllByRecursion, cons_option}
use Rattle.std.specs.Prelude.{[], ◌++◌, ◌∷◌, ◌≡◌, ◌⊎◌, List, None, Option, Some, fold, false}
use Rattle.mqb_base.specs.declared.ids.Guid.{Guid}
use Rattle.mqb_base.specs.declared.ids.Identity.{Identity}
use Rattle.mqb_orders.specs.Rows.{Row}
use Rattle.mqb_orders.specs.declared.kept.Kept.{Kept}
use Rattle.mqb_session.specs.State as one_end
use Rattle.mqb_session.specs.declared.heads.Kind.TheVariants as kind
use Rattle.mqb_model.specs.managers.Manager.{Manager, is_down}
use Rattle.mqb_model.specs.managers.Outcomes.{Outcome, state_after, succeeded}
use Rattle.mqb_model.specs.state.State.{State}
use Rattle.mqb_capture.specs.Events.{Event, Sent}
use Rattle.mqb_capture.specs.Grammar.{Head}
use Rattle.mqb_capture.specs.Lawful.{AreRun, IsBetween, MayCome, first_session, session_after, session_behind}
use Rattle.mqb_capture.specs.Links.{AreLinked, link_by, links}
use Rattle.mqb_capture.specs.declared.link.Link.{Link}
use Rattle.mqb_capture.specs.declared.answers.Way.TheVariants as way
use Rattle.mqb_law_captures.proofs.Links.{AreNoted, Joins, Rising, linked_more, noted_grown, noted_rows, rising_go}
use Rattle.mqb_law_captures.proofs.Rows.{IsOwnOf, KeptRise, RowsGo}
use Rattle.mqb_law_captures.proofs.Sessions.{IsLost, IsPeered}
use Rattle.mqb_law_captures.proofs.States.{Leaves, WaitsOwn}
use Rattle.mqb_law_captures.proofs.Lists.{append_nothing, all_append}

-- a user packet that is sent goes from this end to its peer
abbrev pub IsToPeer : Head → Event → Type 0
IsToPeer h (Sent p) = IsBetween h (Sent p)
IsToPeer h _ = Unit {0}

-- A session and its events.
pub record Runs (h : Head) (session : one_end.State) (events : List Event) : Type 0 where
  pub same : session_behind h events ≡ session
  pub run : AreRun h (first_session h) events
  pub between : AllByRecursion (IsToPeer h) events
  pub linked : AreLinked (links way.Sent events)

-- One event more.

run_more : (h : Head) (s : one_end.State) (events : List Event) (e : Event) → AreRun h s events → MayCome h (fold (session_after h) s events) e → AreRun h s (events ++ e ∷ [])
run_more h s [] e run may = (may, tt)
run_more h s (x ∷ events) e run may = (run.0, run_more h (session_after h s x) events e run.1 may)

behind_more : (h : Head) (events : List Event) (e : Event) → session_behind h (events ++ e ∷ []) ≡ session_after h (session_behind h events) e
behind_more h events e = fold-append (session_after h) (first_session h) events (e ∷ [])

links_more : (events : List Event) (e : Event) → links way.Sent (events ++ e ∷ []) ≡ links way.Sent events ++ cons_option (link_by way.Sent e) []
links_more events e = filter_map-append (link_by way.Sent) events (e ∷ [])

-- an event without a link
pub unlinked_more : (h : Head) (s t : one_end.State) (events : List Event) (e : Event) → Runs h s events → MayCome h s e → session_after h s e ≡ t → IsToPeer h e → link_by way.Sent e ≡ None
    → Runs h t (events ++ e ∷ []) × (links way.Sent (events ++ e ∷ []) ≡ links way.Sent events)
unlinked_more h s t events e r may is to none = (
  record {
    same = behind_more h events e ∙ ap (λ (x : one_end.State). session_after h x e) r.same ∙ is;
    run = run_more h (first_session h) events e r.run (subst (λ (x : one_end.State). MayCome h x e) (sym r.same) may);
    between = all_append (IsToPeer h) events (e ∷ []) r.between (to, tt);
    linked = subst AreLinked (sym same) r.linked;
  },
  same,
)
  where
    same : links way.Sent (events ++ e ∷ []) ≡ links way.Sent events
    same = links_more events e ∙ ap (λ (o : Option Link). links way.Sent events ++ cons_option o []) none ∙ append_nothing (links way.Sent events)

-- an event with one
pub linked_event : (h : Head) (s t : one_end.State) (events : List Event) (e : Event) (l : Link) → Runs h s events → MayCome h s e → session_after h s e ≡ t → IsToPeer h e → link_by way.Sent e ≡ Some l
    → Joins (links way.Sent events) l → Runs h t (events ++ e ∷ []) × (links way.Sent (events ++ e ∷ []) ≡ links way.Sent events ++ l ∷ [])
linked_event h s t events e l r may is to some joins = (
  record {
    same = behind_more h events e ∙ ap (λ (x : one_end.State). session_after h x e) r.same ∙ is;
    run = run_more h (first_session h) events e r.run (subst (λ (x : one_end.State). MayCome h x e) (sym r.same) may);
    between = all_append (IsToPeer h) events (e ∷ []) r.between (to, tt);
    linked = subst AreLinked (sym same) (linked_more (links way.Sent events) l r.linked joins);
  },
  same,
)
  where
    same : links way.Sent (events ++ e ∷ []) ≡ links way.Sent events ++ l ∷ []
    same = links_more events e ∙ ap (λ (o : Option Link). links way.Sent events ++ cons_option o []) some

-- The manager of a connection.

abbrev pub KeepsOwn : Guid → Row → Type 0
KeepsOwn own row = AllByRecursion (λ (k : Kept). IsOwnOf own kind.Plain k.message) row.kept

-- what is its own
pub record IsOwner (own : Guid) (s : State) : Type 0 where
  pub identity : s.identity.guid ≡ own
  pub plain : AllByRecursion (WaitsOwn own) s.plain
  pub kept : AllByRecursion (KeepsOwn own) s.outs
  pub rises : AllByRecursion (λ (row : Row). KeptRise row.kept) s.outs
  pub ordinals : Rising s.outs

rows_keep : (own : Guid) (olds news : List Row) → RowsGo own olds news → AllByRecursion (KeepsOwn own) olds → AllByRecursion (KeepsOwn own) news
rows_keep own [] [] g h = tt
rows_keep own [] (b ∷ news) g h = absurd g
rows_keep own (a ∷ olds) [] g h = absurd g
rows_keep own (a ∷ olds) (b ∷ news) g h = (g.0.kept h.0, rows_keep own olds news g.1 h.1)

rows_rise : (own : Guid) (olds news : List Row) → RowsGo own olds news → AllByRecursion (λ (row : Row). KeptRise row.kept) olds → AllByRecursion (λ (row : Row). KeptRise row.kept) news
rows_rise own [] [] g h = tt
rows_rise own [] (b ∷ news) g h = absurd g
rows_rise own (a ∷ olds) [] g h = absurd g
rows_rise own (a ∷ olds) (b ∷ news) g h = (g.0.rises h.0, rows_rise own olds news g.1 h.1)

pub owner_after : (own : Guid) (a b : State) → Leaves own a b → IsOwner own a → IsOwner own b
owner_after own a b g h = record {
  identity = ap (λ (i : Identity). i.guid) g.identity ∙ h.identity;
  plain = g.plain h.identity h.plain;
  kept = rows_keep own a.outs b.outs g.rows h.kept;
  rises = rows_rise own a.outs b.outs g.rows h.rises;
  ordinals = rising_go own a.outs b.outs g.rows h.ordinals;
}

-- It may come to be lawful.
pub record Stands (h : Head) (m : Manager) (events : List Event) : Type 0 where
  pub session : one_end.State
  pub is : m.rest.session ≡ Some session
  pub peered : IsPeered h.peer session
  pub runs : Runs h session events
  pub noted : AreNoted (links way.Sent events) m.state.outs m.rest.cursors
  pub owner : IsOwner h.own m.state
  pub up : is_down m ≡ false

-- it does, or its session will never be ready with the peer
abbrev pub MayBeLawful : Head → Manager → List Event → Type 0
MayBeLawful h m events = IsLost h.peer m.rest.session ⊎ Stands h m events

-- A call went well.
pub after_call : {A : Type 0} (h : Head) (m : Manager) (outcome : Outcome A) (after : one_end.State) (events : List Event) → outcome.rest.session ≡ Some after → IsPeered h.peer after → Runs h after events
    → AreNoted (links way.Sent events) m.state.outs outcome.rest.cursors → Leaves h.own m.state (state_after m outcome) → IsOwner h.own m.state → is_down m ≡ false → Stands h (succeeded m outcome) events
after_call h m outcome after events is peered runs noted leaves owner up = record {
  up = up;
  session = after;
  is = is;
  peered = peered;
  runs = runs;
  noted = noted_grown (links way.Sent events) (state_after m outcome).outs outcome.rest.cursors _
      (noted_rows h.own (links way.Sent events) m.state.outs (state_after m outcome).outs outcome.rest.cursors leaves.rows noted);
  owner = owner_after h.own m.state (state_after m outcome) leaves owner;
}
