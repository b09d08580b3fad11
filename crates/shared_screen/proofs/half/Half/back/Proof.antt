-- `back` takes the share out of a gain.
use Rattle.std.proofs.Common.{◌≡◌, ℕ, true, List, [], ◌∷◌, refl}
use mir.Syntax.{named}
use mir.Val.{Val, vunit, vptr}
use base.Logic.{SProp, emp}
use base.Fml.{Fml, ftrue, fsep, flft}
use types.Kit.{‵, ◌⊛◌, given, ◌$◌, ◌∵◌, !, qed, by, move, keep, drop, split, fsplit, fsplit3, fjoin, fjoin3, fpick, learn, rewrite, feq_i}
use types.Run.{of_opd, unit_lit, returns, enter}
use types.ByLocal.{alloc_all, pass_all, free_all, look_at, sets, env}
use contract.Monad.{fact_i}
use contract.Running.{tables}
use denote.Exit.{yes}
use denote.RattleType.{RattleType, owns}
use denote.Signature.{types_at, plain}
use denote.Builtin.{u64}
use denote.Ref.{mut_vals, mut_Tells}
use denote.Steps.{nothing, opens, closes}
use denote.Struct.Tuple.{Tuple}
use denote.Triple.Walked.{Stays, stay_dropped, stay_ref, walk_of, Goes-dropped, Goes-ref}
use Rattle.atomic_table.proofs.Walks.{proved}
use Rattle.logbook.specs.contracts.tokens.Gained as Gained
use Rattle.logbook.proofs.Fields.{token, token_told, ends}
use Rattle.shared_screen.specs.Shares.{holding}
use Rattle.shared_screen.specs.contracts.change.Change as Change
use Rattle.shared_screen.specs.contracts.half.Half as Half
use Rattle.shared_screen.specs.contracts.law.Turn as Turn
use Rattle.shared_screen.specs.contracts.law.TurnGainChangeTuple2U64U64.TheImpl as turn
use Rattle.shared_screen.specs.contracts.half.Half.back.{ended, clauses}
use Rattle.shared_screen.specs.contracts.half.Half.back.Key.{name as #self}
use Rattle.shared_screen.proofs.half.Half.back.Statement.{statement}
use Rattle.shared_screen.proofs.half.Half.back.Code as code

pub back_spec : {M : Type 1} → statement M
back_spec 𝓤 𝓛 𝓜 𝓡 wired =
    let H = 𝓛.H in let 𝓣 = tables 𝓤 H 𝓜 𝓡 𝓡.env in let fn = code.function in let c = clauses 𝓛 𝓜.mem 𝓡.returns in
    let A : RattleType = Tuple (u64 ∷ u64 ∷ []) in let All : RattleType = Tuple (Change.the_row ∷ A ∷ Turn.the_row ∷ []) in let Hr : RattleType = Half.the_row in
    let Gr : RattleType = Gained.the_row Change.the_row A Turn.the_row turn.ghosts in
    let hs : Stays ended.signature.params ended.kept = (stay_ref (0 ∷ []) tt (plain (λ _. Hr)), (stay_dropped (plain (λ _. Gr)) yes, tt)) in
    proved 𝓛 ended hs c 𝓜 𝓡 (Goes-ref 𝓛 1 0 tt (plain (λ _. Hr)), (Goes-dropped 𝓛 1 (plain (λ _. Gr)) yes (λ κs x f. refl), tt)) #self fn (code.unfolded 𝓤 H 𝓜 𝓡 wired)
    (λ κs. (mut_vals, ((λ x. token ∷ []), tt))) (λ κs. (mut_Tells (named 0) κs.0 Hr, ((λ x vs is. token_told All vs is.0), tt))) (λ κs qs bounds a gh are.
    let b : ℕ = a.0.ref_ptr.0 in let o : ℕ = a.0.ref_ptr.1 in let me : Hr.Denot = a.0.now in let got : Gr.Denot = a.1.0 in
    let h' : Hr.Denot = record { marker = me.marker; names = me.names; here = true; number = got.answer.1 } in
    let y : (walk_of 𝓛 ended hs c).Ghost = ((κs, qs, bounds, a, (vptr b o ∷ [], (token ∷ [], tt))), gh) in let Post : Val → SProp 𝓤 = (walk_of 𝓛 ended hs c).post y in
    let toks : Fml = fsep (flft κs.0 qs.0) ftrue in
    qed 𝓛 ((‵ toks ⊛ ‵ (owns (types_at ended.signature.params κs) a y.0.4)) ∷ given (got.names ≡ me.names) (‵ ftrue) ∷ []) ∵ move ! (1 ∷ []) $ learn ! (λ asked. drop ! $ split ! $
    fsplit ! $ move ! (2 ∷ []) $ fsplit ! $ fsplit3 ! $ move ! (3 ∷ []) $ fsplit ! $ fsplit ! $ keep ! (1 ∷ 4 ∷ 5 ∷ 6 ∷ 7 ∷ []) $
    enter ! 𝓣.C 𝓣.Λ fn (vptr b o ∷ token ∷ []) Post $ alloc_all ! (λ l. pass_all ! refl ((tt, tt), ((tt, (tt, tt)), tt)) $ let Ev = env fn.locals l in
    fsplit ! $ fpick ! (λ so. drop ! $ rewrite ! 0 (λ (ns : List ℕ). ‵ (holding ns true got.answer.1)) asked refl $
    move ! (1 ∷ 2 ∷ 3 ∷ []) $ opens ! tt Hr b o (λ ts. move ! (1 ∷ []) $ fsplit ! $ move ! (0 ∷ 6 ∷ []) $ fjoin ! $ move ! (2 ∷ 0 ∷ 3 ∷ 4 ∷ 5 ∷ []) $ closes ! tt Hr h' ts b o $
    sets ! (of_opd ! (unit_lit !)) refl (tt, tt) $
    feq_i ! (List Val) (vptr b o ∷ []) (vptr b o ∷ []) refl $ fjoin3 ! $ move ! (1 ∷ 3 ∷ []) $ fjoin ! $
    nothing ! $ nothing ! $ fjoin ! $ move ! (2 ∷ 0 ∷ []) $ fjoin ! $ feq_i ! (List Val) (vunit ∷ []) (vunit ∷ []) refl $
    returns ! (look_at ! 0 refl) $ free_all ! refl $ keep ! (2 ∷ 1 ∷ 0 ∷ []) $ by ! (ends 𝓛 ended hs c y vunit tt (h', (tt, tt)) (tt, (tt, tt)) (fact_i 𝓤 _ (emp 𝓤) (refl, refl, refl, so))))))))
