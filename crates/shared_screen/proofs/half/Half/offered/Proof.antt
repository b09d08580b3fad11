-- `offered` puts the share into an offer.
use Rattle.std.proofs.Common.{◌≡◌, ℕ, Bool, true, false, List, [], ◌∷◌, length, refl, None}
use mir.Syntax.{a_type, dcons, dnil, named}
use mir.MapTy.{inst_fn}
use denote.Param.{param, bounded}
use mir.Val.{Val, vptr}
use base.Logic.{SProp, emp}
use base.Fml.{Fml, ftrue, fsep, flft}
use types.Kit.{‵, raw, ◌⊛◌, given, ◌$◌, ◌∵◌, !, qed, by, move, keep, drop, split, fsplit, fsplit3, fjoin, fjoin3, learn, use0, use1, rewrite, feq_i}
use types.Run.{no_more, and_then, returns, enter}
use types.ByLocal.{alloc_all, pass_all, free_all, look_at, get, sets, env}
use types.Part.{agg}
use contract.Monad.{fact, fact_i}
use contract.Running.{tables}
use denote.Exit.{yes}
use denote.RattleType.{RattleType, owns}
use denote.Signature.{types_at, plain}
use denote.Builtin.{RefOf, u64}
use denote.Ref.{mut_vals, mut_Tells, shr_vals, shr_Tells}
use denote.Steps.{nothing, opens, closes}
use denote.Struct.Tuple.{Tuple}
use denote.Triple.Walked.{Stays, stay_dropped, stay_ref, walk_of, Goes-dropped, Goes-ref}
use Rattle.atomic_table.proofs.Walks.{proved}
use Rattle.logbook.specs.Kept.{offer_owns}
use Rattle.logbook.specs.contracts.tokens.Offer as Offer
use Rattle.logbook.proofs.Fields.{token, Token, token_made, ends}
use Rattle.shared_screen.specs.History as history
use Rattle.shared_screen.specs.Shares.{kept, holding, turned, IsMove}
use Rattle.shared_screen.specs.contracts.change.Change as Change
use Rattle.shared_screen.specs.contracts.half.Half as Half
use Rattle.shared_screen.specs.contracts.law.Law as Law
use Rattle.shared_screen.specs.contracts.law.Turn as Turn
use Rattle.shared_screen.specs.contracts.law.Nothing as Nothing
use Rattle.shared_screen.specs.contracts.law.LawRuleChangeTuple2U64U64.TheImpl as rule
use Rattle.shared_screen.specs.contracts.law.TurnGainChangeTuple2U64U64.TheImpl as turn
use Rattle.shared_screen.specs.contracts.law.NothingGainChangeTuple2U64U64.TheImpl as idle
use Rattle.shared_screen.proofs.Shares.{trades, times, times_long}
use Rattle.shared_screen.specs.contracts.half.Half.offered.{ended, clauses}
use Rattle.shared_screen.specs.contracts.half.Half.offered.Key.{name as #self}
use Rattle.shared_screen.proofs.half.Half.offered.Statement.{statement}
use Rattle.shared_screen.proofs.half.Half.offered.Code as code

pub offered_spec : {M : Type 1} → statement M
offered_spec 𝓤 𝓛 𝓜 𝓡 wired P _ g d _ =
    let H = 𝓛.H in let 𝓣 = tables 𝓤 H 𝓜 𝓡 𝓡.env in let inst = bounded (a_type ∷ []) (P, tt) (dcons d dnil) in let fn = inst_fn inst code.function in let En = ended P g d in let c = clauses P g d 𝓛 𝓜.mem 𝓡.returns in let P' : RattleType = param 0 P in let ruled = rule.ghosts P' g rule.no_dict in
    let A : RattleType = Tuple (u64 ∷ u64 ∷ []) in let All : RattleType = Tuple (Change.the_row ∷ A ∷ (Law.the_row P') ∷ Turn.the_row ∷ []) in let Hr : RattleType = Half.the_row in
    let Pl : RattleType = Offer.the_row Change.the_row A (Law.the_row P') Nothing.the_row ruled idle.ghosts in let Or : RattleType = Offer.the_row Change.the_row A (Law.the_row P') Turn.the_row ruled turn.ghosts in
    let hs : Stays En.signature.params En.kept = (stay_ref (0 ∷ []) tt (plain (λ _. Hr)), (stay_dropped (RefOf (1 ∷ []) tt (plain (λ _. Pl)) (λ _. tt)) yes, tt)) in
    proved 𝓛 En hs c 𝓜 𝓡 (Goes-ref 𝓛 3 0 tt (plain (λ _. Hr)), (Goes-dropped 𝓛 3 (RefOf (1 ∷ []) tt (plain (λ _. Pl)) (λ _. tt)) yes (λ κs x f. refl), tt)) (#self inst) fn (code.unfolded 𝓤 H 𝓜 𝓡 wired (P, tt) d)
    (λ κs. (mut_vals, (shr_vals, tt))) (λ κs. (mut_Tells (named 0) κs.0 Hr, (shr_Tells (named 1) κs.1.0 Pl, tt))) (λ κs qs bounds a gh are.
    let b : ℕ = a.0.ref_ptr.0 in let o : ℕ = a.0.ref_ptr.1 in let me : Hr.Denot = a.0.now in let asks : Pl.Denot = a.1.0.now in
    let about : List history.Change = times me.number asks.ask in let long : length about ≡ me.number = times_long me.number asks.ask in
    let h' : Hr.Denot = record { marker = me.marker; names = me.names; here = false; number = me.number } in let r : Or.Denot = record { marker = record {}; names = me.names; ask = asks.ask; about = about; state = None } in
    let y : (walk_of 𝓛 En hs c).Ghost = ((κs, qs, bounds, a, (vptr b o ∷ [], (vptr a.1.0.ref_ptr.0 a.1.0.ref_ptr.1 ∷ [], tt))), gh) in let Post : Val → SProp 𝓤 = (walk_of 𝓛 En hs c).post y in
    let toks : Fml = fsep (flft κs.0 qs.0) (fsep (flft κs.1.0 qs.1.0) (fsep (flft κs.1.1.0 qs.1.1.0) ftrue)) in
    qed 𝓛 ((‵ toks ⊛ ‵ (owns (types_at En.signature.params κs) a y.0.4)) ∷ raw (fact 𝓤 _) ∷ given (me.here ≡ true) (‵ ftrue) ∷ []) ∵ move ! (2 ∷ 0 ∷ []) $ learn ! (λ asked. drop ! $ split ! $
    fsplit ! $ move ! (1 ∷ []) $ fsplit ! $ move ! (3 ∷ []) $ fsplit ! $ fsplit3 ! $ move ! (3 ∷ []) $ fsplit ! $ fsplit ! $ keep ! (1 ∷ 4 ∷ 5 ∷ 6 ∷ 7 ∷ 8 ∷ []) $
    enter ! 𝓣.C 𝓣.Λ fn (vptr b o ∷ vptr a.1.0.ref_ptr.0 a.1.0.ref_ptr.1 ∷ []) Post $ alloc_all ! (λ l. pass_all ! refl ((tt, tt), ((tt, tt), tt)) $ let Ev = env fn.locals l in
    drop ! $ move ! (0 ∷ 1 ∷ 4 ∷ []) $ opens ! tt Hr b o (λ ts. move ! (1 ∷ []) $ fsplit ! $ move ! (1 ∷ []) $
    rewrite ! 0 (λ (t : Bool). ‵ (holding me.names t me.number)) asked refl $
    use1 𝓛 (‵ (offer_owns (kept me.names) IsMove (turned me.names about) None)) (trades 𝓛 me.names me.number about long) $
    nothing ! $ move ! (2 ∷ 0 ∷ []) $ fjoin ! $ move ! (2 ∷ 0 ∷ 3 ∷ 4 ∷ 5 ∷ []) $ closes ! tt Hr h' ts b o $
    feq_i ! (List Val) (vptr b o ∷ []) (vptr b o ∷ []) refl $ fjoin3 ! $ move ! (3 ∷ 4 ∷ []) $ fjoin ! $ move ! (2 ∷ 0 ∷ []) $ fjoin ! $
    nothing ! $ nothing ! $ fjoin ! $ move ! (2 ∷ 0 ∷ []) $ fjoin ! $ move ! (2 ∷ []) $
    use0 𝓛 (‵ ((Token All).own_val (record {}, tt) (token ∷ []))) (token_made All 𝓛) $ fjoin ! $
    sets ! (agg ! (no_more !)) refl (tt, tt) $ sets ! (agg ! (and_then ! (get ! refl) (no_more !))) refl (tt, (tt, tt)) $
    returns ! (look_at ! 0 refl) $ free_all ! refl $ keep ! (2 ∷ 1 ∷ 0 ∷ []) $ by ! (ends 𝓛 En hs c y token r (h', (tt, tt)) (tt, (tt, tt)) (fact_i 𝓤 _ (emp 𝓤) (refl, refl, refl, refl, long, refl)))))))
