use Rattle.std.proofs.Common.{◌≡◌, ◌++◌, List, ℕ, ◌∷◌, Option, [], Bool, true, refl, sym, ap, subst, ◌∙◌}
use Rattle.std.specs.Prelude.{if◌then◌else◌, is_some, unwrap_or}
use Rattle.byte_reading.specs.Reading.{whole_of}
use Rattle.raster.specs.declared.rect.Rect.{Rect}
use Rattle.raster.specs.declared.size.Size.{Size}
use Rattle.rfb_wire.specs.Writing.{bell_bytes}
use Rattle.tiles.specs.Have.{HaveStands}
use Rattle.tiles.specs.Touched.{WasCut, told_last}
use Rattle.reflect_core.specs.Asked.{AskedStands, LiesOn}
use Rattle.reflect_core.specs.Source.{IsCutOf}
use Rattle.reflect_core.specs.declared.cut.Cut.{Cut}
use Rattle.viewer_session.specs.Found.{begun_bytes, has_newer, rings, told_or_answered, update_in}
use Rattle.viewer_session.specs.Outgoing.{answer_coming, size_and, text_message}
use Rattle.viewer_session.specs.Session.{State, CutsAt, asked_now, is_greeted, hello_of, since_now, size_now, style_now, told_now}
use Rattle.viewer_session.specs.Turn.{size_for, size_or_update}
use Rattle.viewer_session.specs.contracts.session.Session.{the_view}
use Rattle.viewer_session.proofs.Parts.{cut_within}
use Rattle.viewer_session.proofs.SentAs.{sends}
use Rattle.viewer_session.proofs.TurnLaws.{greeted_ready, greeting_done, text_there, turned, IsCutFor}
use Rattle.viewer_session.proofs.session.Session.turn_at.Goals as goal

pub begin-requires-clause-text : goal.begin-requires-clause-text
begin-requires-clause-text g c = λ newer.
    let cut_is : c.self-2.inside.out.cut ≡ c.take.new.self.cut = ap (λ (t : State). t.cut) c.self-2.view_is ∙ (ap (λ (t : State). t.cut) c.compress-update.ensures.others ∙ ap (λ (t : State). t.cut) c.begin_answer-size.ensures.others) in
    ap (λ (cut : Cut). is_some cut.text) (cut_is ∙ sym c.cut-2.ensures) ∙ text_there c.last_cut-last.result c.cut-2.result.now.text c.news_of-news.result.text c.news_of-news.ensures.text newer

pub invariant_of-self-3 : goal.invariant_of-self-3
invariant_of-self-3 g c =
    let i = c.self-2.invariant in
    let hello_is : c.self-2.inside.hello ≡ c.self.inside.hello = ap (λ (t : State). t.greeting) c.self-2.view_is ∙ (ap (λ (t : State). t.greeting) c.compress-update.ensures.others ∙ ap (λ (t : State). t.greeting) c.begin_answer-size.ensures.others) in
    record {
      size = i.size;
      taken = i.taken;
      fresh = i.fresh;
      asked_size = i.asked_size;
      have_size = i.have_size;
      cut_size = (ap (λ (cut : Cut). cut.width) c.begin.ensures.cut ∙ i.cut_size.0, ap (λ (cut : Cut). cut.height) c.begin.ensures.cut ∙ i.cut_size.1);
      greets = greeting_done c.self-2.inside.hello c.self-2.inside.out c.begin.new.self (ap (λ o. is_some (whole_of (hello_of o))) hello_is ∙ (ap is_greeted c.self.view_is ∙ greeted_ready c.args.self.now c.requires.ready)) i.greets;
    }

pub returns-clause-cuts : goal.returns-clause-cuts
returns-clause-cuts g c = λ reason.
    let i = c.self.invariant in
    let st = the_view c.self.inside in
    let now = c.args.self.now in
    let known = g.S.ScreenSource.known c.take.new.source in
    let least = g.S.ScreenSource.answered c.args.source.now in
    let most = g.S.ScreenSource.answered c.take.new.source in
    let cut : Cut = c.take.new.self.cut in
    let n : ℕ = c.in_ok-number.number in
    let ok = c.in_ok-number.ensures.ok in
    let answer = c.begin_answer-size.new.self in
    let found = c.begin_answer-size.result.1 in
    let sent = c.compress-update.result in
    let started : Bool = c.compress-update.new.self.begun in
    let area_is : c.asked_part-area.result ≡ asked_now st = c.asked_part-area.ensures.value ∙ ap asked_now (sym c.self.view_is) in
    let size : Option Size = c.begin_answer-size.result.0 in
    let nowhere : Rect = record { x = 0; y = 0; w = 0; h = 0 } in
    let mid_is : the_view c.self-2.inside ≡ record st { told = answer.told; asked = answer.asked; have = answer.have; cut = cut; piece = c.take.new.self.piece; unsent = c.take.new.self.unsent; begun = started } =
    c.self-2.view_is ∙ (c.compress-update.ensures.others ∙ ap (λ (t : State). record t { begun = started }) c.begin_answer-size.ensures.others) in
    let cut_is : c.self-2.inside.out.cut ≡ cut = ap (λ (t : State). t.cut) mid_is in
    let begun : c.begin.new.self.cut ≡ cut = c.begin.ensures.cut ∙ cut_is in
    let piece : List ℕ = c.begin.new.self.piece in
    let bytes : List ℕ = c.begin.new.self.unsent in
    let bell = c.news_of-news.result.bell in
    let text = c.news_of-news.result.text in
    let bytes_are : bytes ≡ (if bell then bell_bytes else []) ++ ((if text then text_message cut.text else []) ++ size_and size (answer_coming true sent cut)) =
    c.begin.ensures.unsent ∙ ap (λ (t : Cut). (if bell then bell_bytes else []) ++ ((if text then text_message t.text else []) ++ size_and size (answer_coming true sent t))) cut_is in
    let rung : bell ≡ rings st.asked.last st.cut.bells cut.bells =
    c.news_of-news.ensures.bell
    ∙ (ap (λ o. rings o c.cut.result.now.bells c.cut-2.result.now.bells) c.last_cut-last.ensures
    ∙ (ap (λ (t : Cut). rings st.asked.last t.bells c.cut-2.result.now.bells) c.cut.ensures ∙ ap (λ (t : Cut). rings st.asked.last st.cut.bells t.bells) c.cut-2.ensures)) in
    let newer : text ≡ has_newer st.asked.last cut.text =
    c.news_of-news.ensures.text ∙ (ap (λ o. has_newer o c.cut-2.result.now.text) c.last_cut-last.ensures ∙ ap (λ (t : Cut). has_newer st.asked.last t.text) c.cut-2.ensures) in
    let part : size_and size (begun_bytes found cut) ≡ size_or_update size (update_in (style_now st) cut (asked_now st)) = c.begin_answer-size.ensures.bytes ∙ ap (λ o. size_or_update size (update_in (style_now st) cut o)) area_is in
    let sized : size ≡ size_for st.width st.height st.host st.choice.resizes (told_now st) cut.host_size st.asked.area =
    c.begin_answer-size.ensures.size ∙ ap (size_for st.width st.height st.host st.choice.resizes (told_now st) cut.host_size) c.was_cut.ensures.area in
    let cut_for : IsCutFor st cut nowhere known n =
    record {
      is = subst (λ o. IsCutOf known n (unwrap_or (asked_now st) nowhere) st.have o cut) (c.since-since.ensures ∙ ap since_now (sym c.self.view_is))
          (subst (λ (r : Rect). IsCutOf known n r st.have c.since-since.result cut) (c.unwrap_or.ensures ∙ ap (λ (o : Option Rect). unwrap_or o nowhere) area_is) ok.0);
      width = sym (c.take.ensures.room.0 ∙ i.cut_size.0);
      height = sym (c.take.ensures.room.1 ∙ i.cut_size.1);
      have_width = i.have_size.0;
      have_height = i.have_size.1;
      size = cut.size;
      within = cut_within (asked_now st) (unwrap_or (asked_now st) nowhere) nowhere st.width st.height cut.width cut.height refl (refl, refl)
          (subst (λ (o : Option Rect). LiesOn st.width st.height o) area_is (subst (λ (t : State). LiesOn t.width t.height c.asked_part-area.result) (sym c.self.view_is) c.asked_part-area.ensures.within)) (sym (c.take.ensures.room.0 ∙ i.cut_size.0)) (sym (c.take.ensures.room.1 ∙ i.cut_size.1));
    } in
    let others = c.begin_answer-size.ensures.others in
    subst (λ (t : State). CutsAt g.S.ScreenSource.cuts c.args.source.now c.take.new.source now (record t { cut = c.begin.new.self.cut; piece = piece; unsent = bytes }) known least most) (sym mid_is)
    (subst (λ (t : Cut). CutsAt g.S.ScreenSource.cuts c.args.source.now c.take.new.source now (record st { told = answer.told; asked = answer.asked; have = answer.have; cut = t; piece = piece; unsent = bytes; begun = started }) known least most) (sym begun)
    (turned g.S.ScreenSource.cuts c.args.source.now c.take.new.source st now known least most n cut nowhere size answer.told answer.asked answer.have bell text (size_and size (answer_coming true sent cut)) piece bytes started
    c.in_ok-number.ensures.cuts c.self.view_is c.requires.ready cut_for (ok.1, ok.2) rung newer sized
    (λ s p k. sends s st answer p cut known n nowhere size found sent started c.asked_part-area.result k cut_for (ap (λ (t : State). t.cut) others) (ap (λ (t : State). t.form) others) (ap (λ (t : State). t.choice) others) (ap style_now others) (ap (λ (t : State). t.begun) others) sized c.begin_answer-size.ensures.alone part area_is c.compress-update.ensures.sent)
    (c.begin_answer-size.ensures.last ∙ c.was_cut.ensures.last)
    (λ es t. subst (λ (o : Option Rect). told_last (told_or_answered n size (update_in (style_now st) cut o) es) ≡ answer.told) area_is (c.begin_answer-size.ensures.told es t))
    (λ es a. subst (λ (o : Option Rect). AskedStands answer.asked (told_or_answered n size (update_in (style_now st) cut o) (WasCut n ∷ es))) area_is (c.begin_answer-size.ensures.asked (WasCut n ∷ es) (c.was_cut.ensures.stands es a)))
    (λ es t h. subst (λ (o : Option Rect). HaveStands answer.have (told_or_answered n size (update_in (style_now st) cut o) es)) area_is (c.begin_answer-size.ensures.have es t h))
    bytes_are))
