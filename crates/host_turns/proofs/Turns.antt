-- A run grows by one turn. The loop over the hosts keeps that all turns so far are a run.
use Rattle.std.proofs.Common.{◌≡◌, ℕ, ◌≤◌, Bool, true, List, [], ◌∷◌, ◌++◌, length, Option, Result, Err, refl, ap, subst, inl, inr, ◌∙◌}
use Rattle.fault.specs.declared.kinds.Fault.{Fault}
use Rattle.raster.specs.Screen.{Canvas}
use Rattle.raster.specs.Switch.{switch}
use Rattle.raster.specs.Update.{Update}
use Rattle.rfb_wire.specs.Handshake.{Joined}
use Rattle.link.specs.Links.{LinkState}
use Rattle.link.specs.Joins.{Joins}
use Rattle.painter.specs.Same.{AreSameUpdates}
use Rattle.reflect_core.specs.Plain.{IsPutRefusal}
use Rattle.host_turns.specs.declared.ending.Ending.{Ending}
use Rattle.host_turns.specs.Moment.{IsBegun}
use Rattle.host_turns.specs.Running.{Coming, HasRun, HasTurn, IsMet, IsMissed, IsRead, IsTurn, IsWant, JoinsWithin, Missed, Read, came_over, goes_on, links_with, put_with}

pub one_more : (w h : ℕ) (password : Option (List ℕ)) (comes : Coming → Type 0) (before last_end : Ending) (came : Coming) (links_old links_new : List LinkState) (old now new : List Update)
    → HasRun w h password comes before came links_old old now → goes_on before ≡ true → HasTurn w h password comes last_end links_old links_new now new → HasRun w h password comes last_end came links_new old new
one_more w h password comes before last_end came links_old links_new old now new run on turn =
    record {
      first = run.first;
      begins = run.begins;
      comes_as = run.comes_as;
      read = run.read;
      turns = turn.turn ∷ run.turns;
      in_turn = (run.in_turn, subst (λ (e : Ending). goes_on e ≡ true) run.last on, subst (λ us. IsTurn w h password comes us turn.turn) run.put turn.is);
      last = turn.ends;
      handed = turn.handed ∙ ap (λ l. links_with l turn.turn) run.handed;
      put = turn.put ∙ ap (λ us. put_with us turn.turn) run.put;
    }

-- The host that is joined is read to its end, and so the run has one stay more.
pub stayed : (w h : ℕ) (password : Option (List ℕ)) (comes : Coming → Type 0) (answer : Result (Unit {0}) Fault) (first joined : Coming) (left : LinkState) (links : List LinkState) (old now put : List Update)
    → IsBegun w h password comes first joined links old now → IsRead w h answer joined.link left now put → HasRun w h password comes (record { answer = answer; has_called = joined.has_called }) first (links ++ left ∷ []) old put
stayed w h password comes answer first joined left links old now put (inl k) read =
    record {
      first = record { answer = answer; has_called = joined.has_called; joined = joined.link; left = left; put = put };
      begins = ap (λ (c : Coming). c.link) k.same;
      comes_as = ap (λ (c : Coming). c.has_called) k.same;
      read = subst (λ (c : Coming). IsRead w h answer c.link left old put) k.same (subst (λ us. IsRead w h answer joined.link left us put) k.unput read);
      turns = [];
      in_turn = tt;
      last = refl;
      handed = ap (λ ls. ls ++ left ∷ []) k.none;
      put = refl;
    }
stayed w h password comes answer first joined left links old now put (inr k) read =
    one_more w h password comes k.last (record { answer = answer; has_called = joined.has_called }) first links (links ++ left ∷ []) old k.shown put k.run k.on
    (record { turn = Read (record { answer = answer; has_called = joined.has_called; joined = joined.link; left = left; put = put }); is = (k.met.0, k.met.1, (now, k.met.2, read)); ends = refl; handed = refl; put = refl })

-- A host came that is missed. Nothing was put.
pub missed : (w h : ℕ) (password : Option (List ℕ)) (comes : Coming → Type 0) (before last_end : Ending) (first : Coming) (has_called : Bool) (link : LinkState) (links : List LinkState) (old now : List Update)
    → HasRun w h password comes before first links old now → goes_on before ≡ true → comes (came_over has_called link) → (fault : Fault) × (last_end ≡ record { answer = Err fault; has_called = has_called }) × IsMissed w h password (length now) fault link → HasRun w h password comes last_end first links old now
missed w h password comes before last_end first has_called link links old now run on there why =
    one_more w h password comes before last_end first links links old now now run on (record { turn = Missed has_called why.0; is = (link, there, why.2); ends = why.1; handed = refl; put = refl })

-- A host was joined that fits into the room.
pub joins_within : (w h : ℕ) (password : Option (List ℕ)) (link_old link_new : LinkState) (host : Joined) → Joins password link_old link_new host → (host.w ≤ w) × (host.h ≤ h) → JoinsWithin w h password link_old link_new
joins_within w h password link_old link_new host joins fits = record { host = host; joins = joins; width = fits.0; height = fits.1 }

-- And then the switch to it was put.
pub met : (w h : ℕ) (password : Option (List ℕ)) (link_old link_new : LinkState) (host : Joined) (put : Update) (old new : List Update)
    → Joins password link_old link_new host → (host.w ≤ w) × (host.h ≤ h) → new ≡ old ++ put ∷ []
    → ((start : Canvas) → AreSameUpdates w h start (switch host.w host.h ∷ []) (put ∷ [])) → IsMet w h password link_old link_new old new
unfolding joins_within
met w h password link_old link_new host put old new joins fits added same =
    record { joins = joins_within w h password link_old link_new host joins fits; switched = record { put = put; added = added; same = same } }

-- Where a patch isn't put, something is wanting.
pub wants : (count : ℕ) (fault : Fault) → IsPutRefusal count fault → IsWant count fault
wants count fault (inl refused) = inl refused.1
wants count fault (inr out) = inr (out.1, out.0)

-- A host came and was joined, and the switch to it was put.
pub begun : (w h : ℕ) (password : Option (List ℕ)) (comes : Coming → Type 0) (last : Ending) (first : Coming) (has_called : Bool) (link joined : LinkState) (links : List LinkState) (old shown now : List Update)
    → HasRun w h password comes last first links old shown → goes_on last ≡ true → comes (came_over has_called link) → IsMet w h password link joined shown now → IsBegun w h password comes first (came_over has_called joined) links old now
begun w h password comes last first has_called link joined links old shown now run on there met =
    inr (record { last = last; shown = shown; run = run; on = on; met = (link, there, met) })
