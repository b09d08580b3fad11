-- What follows a field of a host's handshake that is whole. The next stage follows, or a fault.
use Rattle.std.proofs.Common.{◌≡◌, ℕ, ◌+◌, ◌-◌, ◌<◌, ◌≤◌, Bool, true, false, not, List, [], ◌∷◌, ◌++◌, length, get_or, min, Option, Some, None, refl, sym, ap, subst, ◌∙◌, arith, append_assoc, length-append}
use Rattle.std.proofs.lemmas.List.{append-nil}
use Rattle.std.specs.Prelude.{◌==◌, ◌&&◌, if◌then◌else◌, is_some, unwrap_or}
use Rattle.std.specs.List.{list_any}
use Rattle.std.proofs.lemmas.Bool.{ne_eqb}
use Rattle.std.specs.Int.{w32, from_be_bytes}
use Rattle.byte_reading.specs.Reading.{Reading, Done, Faulty, ◌>>=◌, after, bytes, padding, u32, unless}
use Rattle.fault.specs.declared.kinds.Fault.TheVariants as fault
use Rattle.vnc_auth.specs.Answer.{answer_of, sealed}
use Rattle.rfb_wire.specs.Handshake.{Joined, version, is_host_version, is_size, kept_name, refused, chosen, chosen_type, challenge, security_result, host_init, host_hello, answer_to}
use Rattle.rfb_wire.specs.Joining.{said, version_of, types_ahead, types_of, challenge_ahead, result_of, init_of, ahead, FitsStage, HasHeard, SaysWithin, GoesOnAlike, IsJudged}
use Rattle.rfb_wire.specs.declared.host_talk.Stage.{Stage}
use Rattle.rfb_wire.specs.declared.host_talk.Stage.TheVariants as at
use Rattle.rfb_wire.specs.declared.host_talk.HostTalk.{HostTalk}
use Rattle.byte_reading.proofs.Heads.{head_full}
use Rattle.byte_reading.proofs.ReadingLaws.{done}
use Rattle.rfb_wire.proofs.Joinings.{version_judged, types_judged, reason_judged, reason_length_judged, outcome_judged, size_judged, name_length_judged, name_judged, wide, high, challenge_full}

-- ---- what is the same before and after

-- Each part of the handshake goes on in the same way, and what must have been said is said.
record PartsAlike (old new : HostTalk) : Type 0 where
  version : version_of new ≡ version_of old
  types : (kind : ℕ) → types_ahead old.password kind new.stage new.wanted new.field.items ≡ types_of old kind
  challenge : (asked : List ℕ) → challenge_ahead asked new.stage new.field.items ≡ challenge_ahead asked old.stage old.field.items
  result : result_of new ≡ result_of old
  init : init_of new ≡ init_of old
  said : (kind : ℕ) (asked : List ℕ) → old.said.items ≡ said old.password kind asked old.stage → new.said.items ≡ said old.password kind asked new.stage

alike_by : (old new : HostTalk) → new.password ≡ old.password → PartsAlike old new → GoesOnAlike old new
alike_by old new same k =
    let whole : ahead new ≡ ahead old = rw (same, k.version, k.types 0, k.challenge [], k.result, k.init) refl in
    record {
      goes_on = whole;
      heard = λ stream h. record {
        kind = h.kind;
        asked = h.asked;
        version = h.version ∙ sym k.version;
        types = rw (same, k.version, k.types h.kind) h.types;
        challenge = rw (same, k.version, k.types h.kind, k.challenge h.asked) h.challenge;
        result = rw (same, k.version, k.types h.kind, k.challenge h.asked, k.result) h.result;
        whole = ap (λ p. after (host_hello p) stream) same ∙ (h.whole ∙ sym whole);
        said = rw same (k.said h.kind h.asked h.said);
      };
    }

-- It is enough to say it at the stage that it is.
at_stage : (talk new : HostTalk) (s : Stage) → talk.stage ≡ s → (SaysWithin (record talk { stage = s }) → IsJudged (record talk { stage = s }) new) → SaysWithin talk → IsJudged talk new
at_stage talk new s e j w =
    subst (λ (k : Stage). IsJudged (record talk { stage = k }) new) (sym e) (j (subst (λ (k : Stage). SaysWithin (record talk { stage = k })) e w))

-- More was said.
says_more : (before more : List ℕ) (sent most : ℕ) → sent ≤ length before → length before + length more ≤ most → (sent ≤ length (before ++ more)) × (length (before ++ more) ≤ most)
says_more before more sent most s m = let e = length-append before more in (omega (arith, e, s), omega (arith, e, m))

-- A field that isn't whole is judged by nobody.
pub stays_alike : (talk : HostTalk) → GoesOnAlike talk talk
stays_alike talk = record { goes_on = refl; heard = λ _ h. h }

-- ---- the version

pub good_version : (talk : HostTalk) → talk.stage ≡ at.Version → length talk.field.items ≡ 12 → SaysWithin talk → is_host_version talk.field.items ≡ true
    → IsJudged talk (record talk { stage = at.TypeCount; wanted = 1; field = record { items = [] }; said = record { items = talk.said.items ++ version } })
good_version talk e whole within good =
    let new : HostTalk = record talk { stage = at.TypeCount; wanted = 1; field = record { items = [] }; said = record { items = talk.said.items ++ version } } in
    at_stage talk new at.Version e
    (λ w. let more = says_more talk.said.items version talk.sent 12 w.sent (omega (arith, w.said)) in
    record {
      sound = record { fits = (refl, omega arith); room = λ _. omega arith; says = record { sent = more.0; said = more.1 } };
      alike = alike_by (record talk { stage = at.Version }) new refl (record {
        version = sym (head_full 12 version_judged talk.field.items whole ∙ ap (λ b. unless (not b) fault.BadVersion (Done tt)) good);
        types = λ _. refl;
        challenge = λ _. refl;
        result = refl;
        init = refl;
        said = λ _ _ h. ap (λ x. x ++ version) h;
      });
      same = record { password = refl; sent = refl };
    })
    within

pub bad_version : (talk : HostTalk) → talk.stage ≡ at.Version → length talk.field.items ≡ 12 → SaysWithin talk → is_host_version talk.field.items ≡ false → IsJudged talk (record talk { stage = at.BadVersion })
bad_version talk e whole within bad =
    let new : HostTalk = record talk { stage = at.BadVersion } in
    at_stage talk new at.Version e
    (λ w. record {
      sound = record { fits = omega (arith, whole); room = λ f. absurd cc; says = record { sent = w.sent; said = w.said } };
      alike = alike_by (record talk { stage = at.Version }) new refl (record {
        version = sym (head_full 12 version_judged talk.field.items whole ∙ ap (λ b. unless (not b) fault.BadVersion (Done tt)) bad);
        types = λ _. refl;
        challenge = λ _. refl;
        result = refl;
        init = refl;
        said = λ _ _ h. h;
      });
      same = record { password = refl; sent = refl };
    })
    within

-- ---- the security types

one_byte : (xs : List ℕ) (count : ℕ) → length xs ≡ 1 → get_or xs 0 0 ≡ count → xs ≡ count ∷ []
one_byte [] count one is = absurd (omega (arith, one))
one_byte (x ∷ []) count one is = ap (λ n. n ∷ []) is
one_byte (x ∷ y ∷ xs) count one is = absurd (omega (arith, one))

-- A list of so many types follows.
pub types_follow : (talk : HostTalk) (count : ℕ) → talk.stage ≡ at.TypeCount → length talk.field.items ≡ 1 → SaysWithin talk → get_or talk.field.items 0 0 ≡ count → 0 < count → count ≤ 255
    → IsJudged talk (record talk { stage = at.Types; wanted = count; field = record { items = [] } })
types_follow talk count e whole within is some few =
    let field = one_byte talk.field.items count whole is in
    let nonzero : (count == 0) ≡ false = ne_eqb count 0 (λ z. absurd (omega (arith, z, some))) in
    let new : HostTalk = record talk { stage = at.Types; wanted = count; field = record { items = [] } } in
    at_stage talk new at.TypeCount e
    (λ w. record {
      sound = record { fits = (few, omega arith); room = λ _. some; says = record { sent = w.sent; said = w.said } };
      alike = alike_by (record talk { stage = at.TypeCount }) new refl (record {
        version = refl;
        types = λ _. rw field (sym (ap (λ b. if b then (u32 >>= refused) else (bytes count >>= types_judged talk.password)) nonzero));
        challenge = λ _. refl;
        result = refl;
        init = refl;
        said = λ _ _ h. h;
      });
      same = record { password = refl; sent = refl };
    })
    within

-- No type follows, but a reason.
pub reason_follows : (talk : HostTalk) → talk.stage ≡ at.TypeCount → length talk.field.items ≡ 1 → SaysWithin talk → get_or talk.field.items 0 0 ≡ 0
    → IsJudged talk (record talk { stage = at.ReasonLength; wanted = 4; field = record { items = [] } })
reason_follows talk e whole within is =
    let field = one_byte talk.field.items 0 whole is in
    let new : HostTalk = record talk { stage = at.ReasonLength; wanted = 4; field = record { items = [] } } in
    at_stage talk new at.TypeCount e
    (λ w. record {
      sound = record { fits = (refl, omega arith); room = λ _. omega arith; says = record { sent = w.sent; said = w.said } };
      alike = alike_by (record talk { stage = at.TypeCount }) new refl (record {
        version = refl;
        types = λ _. rw field refl;
        challenge = λ _. refl;
        result = refl;
        init = refl;
        said = λ _ _ h. h;
      });
      same = record { password = refl; sent = refl };
    })
    within

-- A type that was chosen and isn't None is VNC Authentication.
other_than_none : (none vnc : Bool) (kind : ℕ) → (if none then Some 1 else (if vnc then Some 2 else None)) ≡ Some kind → (kind ≡ 1 → ⊥) → kind ≡ 2
other_than_none true vnc kind e not = absurd (not (sym (ap (λ o. unwrap_or o 0) e)))
other_than_none false true kind e not = sym (ap (λ o. unwrap_or o 0) e)
other_than_none false false kind e not = absurd cc

pub two_was_chosen : (p : Option (List ℕ)) (types : List ℕ) (kind : ℕ) → chosen p types ≡ Some kind → (kind ≡ 1 → ⊥) → kind ≡ 2
two_was_chosen p types kind e not = other_than_none (list_any (λ t. t == 1) types) (is_some p && list_any (λ t. t == 2) types) kind e not

-- None was chosen, and no challenge follows.
pub none_chosen : (talk : HostTalk) → talk.stage ≡ at.Types → length talk.field.items ≡ talk.wanted → SaysWithin talk → chosen talk.password talk.field.items ≡ Some 1
    → IsJudged talk (record talk { stage = at.SecurityResult; wanted = 4; field = record { items = [] }; said = record { items = talk.said.items ++ 1 ∷ [] } })
none_chosen talk e whole within one =
    let new : HostTalk = record talk { stage = at.SecurityResult; wanted = 4; field = record { items = [] }; said = record { items = talk.said.items ++ 1 ∷ [] } } in
    let read : after (bytes talk.wanted >>= types_judged talk.password) talk.field.items ≡ done 1 = head_full talk.wanted (types_judged talk.password) talk.field.items whole ∙ ap chosen_type one in
    let on : ahead new ≡ ahead (record talk { stage = at.Types }) = sym (ap (λ (t : Reading ℕ). t >>= challenge >>= λ _. security_result >>= λ _. host_init) read) in
    at_stage talk new at.Types e
    (λ w. let more = says_more talk.said.items (1 ∷ []) talk.sent 29 w.sent (omega (arith, w.said)) in
    record {
      sound = record { fits = (refl, omega arith); room = λ _. omega arith; says = record { sent = more.0; said = more.1 } };
      alike = record {
        goes_on = on;
        heard = λ stream h. record {
          kind = 1;
          asked = [];
          version = h.version;
          types = h.types ∙ read;
          challenge = h.challenge ∙ ap (λ (t : Reading ℕ). t >>= challenge) read;
          result = h.result ∙ ap (λ (t : Reading ℕ). t >>= challenge >>= λ _. security_result) read;
          whole = h.whole ∙ sym on;
          said = ap (λ x. x ++ 1 ∷ []) h.said;
        };
      };
      same = record { password = refl; sent = refl };
    })
    within

-- VNC Authentication was chosen, and its challenge follows.
pub challenge_follows : (talk : HostTalk) → talk.stage ≡ at.Types → length talk.field.items ≡ talk.wanted → SaysWithin talk → chosen talk.password talk.field.items ≡ Some 2
    → IsJudged talk (record talk { stage = at.Challenge; wanted = 16; field = record { items = [] }; said = record { items = talk.said.items ++ 2 ∷ [] } })
challenge_follows talk e whole within two =
    let new : HostTalk = record talk { stage = at.Challenge; wanted = 16; field = record { items = [] }; said = record { items = talk.said.items ++ 2 ∷ [] } } in
    at_stage talk new at.Types e
    (λ w. let more = says_more talk.said.items (2 ∷ []) talk.sent 13 w.sent (omega (arith, w.said)) in
    record {
      sound = record { fits = (refl, omega arith); room = λ _. omega arith; says = record { sent = more.0; said = more.1 } };
      alike = alike_by (record talk { stage = at.Types }) new refl (record {
        version = refl;
        types = λ _. sym (head_full talk.wanted (types_judged talk.password) talk.field.items whole ∙ ap chosen_type two);
        challenge = λ _. refl;
        result = refl;
        init = refl;
        said = λ _ _ h. ap (λ x. x ++ 2 ∷ []) h;
      });
      same = record { password = refl; sent = refl };
    })
    within

pub nothing_chosen : (talk : HostTalk) → talk.stage ≡ at.Types → length talk.field.items ≡ talk.wanted → length talk.field.items ≤ 255 → SaysWithin talk → chosen talk.password talk.field.items ≡ None
    → IsJudged talk (record talk { stage = at.NoNone })
nothing_chosen talk e whole short within none =
    let new : HostTalk = record talk { stage = at.NoNone } in
    at_stage talk new at.Types e
    (λ w. record {
      sound = record { fits = short; room = λ f. absurd cc; says = record { sent = w.sent; said = w.said } };
      alike = alike_by (record talk { stage = at.Types }) new refl (record {
        version = refl;
        types = λ _. sym (head_full talk.wanted (types_judged talk.password) talk.field.items whole ∙ ap chosen_type none);
        challenge = λ _. refl;
        result = refl;
        init = refl;
        said = λ _ _ h. h;
      });
      same = record { password = refl; sent = refl };
    })
    within

-- ---- the reason of a host that refuses

-- So much of a reason is kept: nothing, or some bytes that follow.
pub no_reason : (talk : HostTalk) → talk.stage ≡ at.ReasonLength → length talk.field.items ≡ 4 → SaysWithin talk → min 255 (from_be_bytes w32 talk.field.items) ≡ 0
    → IsJudged talk (record talk { stage = at.Refused; wanted = 0; field = record { items = [] } })
no_reason talk e whole within none =
    let new : HostTalk = record talk { stage = at.Refused; wanted = 0; field = record { items = [] } } in
    at_stage talk new at.ReasonLength e
    (λ w. record {
      sound = record { fits = omega arith; room = λ f. absurd cc; says = record { sent = w.sent; said = w.said } };
      alike = alike_by (record talk { stage = at.ReasonLength }) new refl (record {
        version = refl;
        types = λ _. sym (head_full 4 reason_length_judged talk.field.items whole ∙ ap (λ n. bytes n >>= reason_judged) none);
        challenge = λ _. refl;
        result = refl;
        init = refl;
        said = λ _ _ h. h;
      });
      same = record { password = refl; sent = refl };
    })
    within

pub some_reason : (talk : HostTalk) (kept : ℕ) → talk.stage ≡ at.ReasonLength → length talk.field.items ≡ 4 → SaysWithin talk → min 255 (from_be_bytes w32 talk.field.items) ≡ kept → 0 < kept
    → IsJudged talk (record talk { stage = at.Reason; wanted = kept; field = record { items = [] } })
some_reason talk kept e whole within is some =
    let new : HostTalk = record talk { stage = at.Reason; wanted = kept; field = record { items = [] } } in
    at_stage talk new at.ReasonLength e
    (λ w. record {
      sound = record { fits = (omega (arith, is), omega arith); room = λ _. some; says = record { sent = w.sent; said = w.said } };
      alike = alike_by (record talk { stage = at.ReasonLength }) new refl (record {
        version = refl;
        types = λ _. sym (head_full 4 reason_length_judged talk.field.items whole ∙ ap (λ n. bytes n >>= reason_judged) is);
        challenge = λ _. refl;
        result = refl;
        init = refl;
        said = λ _ _ h. h;
      });
      same = record { password = refl; sent = refl };
    })
    within

pub whole_reason : (talk : HostTalk) → talk.stage ≡ at.Reason → length talk.field.items ≡ talk.wanted → length talk.field.items ≤ 255 → SaysWithin talk → IsJudged talk (record talk { stage = at.Refused })
whole_reason talk e whole short within =
    let new : HostTalk = record talk { stage = at.Refused } in
    at_stage talk new at.Reason e
    (λ w. record {
      sound = record { fits = short; room = λ f. absurd cc; says = record { sent = w.sent; said = w.said } };
      alike = alike_by (record talk { stage = at.Reason }) new refl (record {
        version = refl;
        types = λ _. sym (head_full talk.wanted reason_judged talk.field.items whole);
        challenge = λ _. refl;
        result = refl;
        init = refl;
        said = λ _ _ h. h;
      });
      same = record { password = refl; sent = refl };
    })
    within

-- ---- the challenge

-- What is answered to some bytes with a password, and without one.
answer_is : (p : List ℕ) (asked : List ℕ) → 0 < length asked → answer_to asked (Some p) ≡ answer_of p asked
answer_is p [] some = absurd (omega (arith, some))
answer_is p (a ∷ asked) some = refl

no_answer : (asked : List ℕ) → [] ≡ answer_to asked None
no_answer [] = refl
no_answer (a ∷ asked) = refl

answer_length : (p asked : List ℕ) → length (answer_of p asked) ≡ 16
unfolding answer_of sealed
answer_length p asked = refl

-- The challenge is whole, and so much is answered.
answered : (talk : HostTalk) (answer : List ℕ) → talk.stage ≡ at.Challenge → length talk.field.items ≡ 16 → SaysWithin talk → length answer ≤ 16 → answer ≡ answer_to talk.field.items talk.password
    → IsJudged talk (record talk { stage = at.SecurityResult; wanted = 4; field = record { items = [] }; said = record { items = talk.said.items ++ answer } })
answered talk answer e whole within short is =
    let new : HostTalk = record talk { stage = at.SecurityResult; wanted = 4; field = record { items = [] }; said = record { items = talk.said.items ++ answer } } in
    let read : after (challenge 2) talk.field.items ≡ done talk.field.items = challenge_full talk.field.items whole in
    let on : ahead new ≡ ahead (record talk { stage = at.Challenge }) = sym (ap (λ (c : Reading (List ℕ)). c >>= λ _. security_result >>= λ _. host_init) read) in
    at_stage talk new at.Challenge e
    (λ w. let more = says_more talk.said.items answer talk.sent 29 w.sent (omega (arith, w.said, short)) in
    record {
      sound = record { fits = (refl, omega arith); room = λ _. omega arith; says = record { sent = more.0; said = more.1 } };
      alike = record {
        goes_on = on;
        heard = λ stream h. record {
          kind = 2;
          asked = talk.field.items;
          version = h.version;
          types = h.types;
          challenge = h.challenge ∙ read;
          result = h.result ∙ ap (λ (c : Reading (List ℕ)). c >>= λ _. security_result) read;
          whole = h.whole ∙ sym on;
          said = ap (λ x. x ++ answer) h.said ∙ ap (λ a. version ++ 2 ∷ a) is;
        };
      };
      same = record { password = refl; sent = refl };
    })
    within

pub answered_by : (talk : HostTalk) (p answer : List ℕ) → talk.stage ≡ at.Challenge → length talk.field.items ≡ 16 → SaysWithin talk → talk.password ≡ Some p → answer ≡ answer_of p talk.field.items
    → IsJudged talk (record talk { stage = at.SecurityResult; wanted = 4; field = record { items = [] }; said = record { items = talk.said.items ++ answer } })
answered_by talk p answer e whole within some is =
    answered talk answer e whole within (omega (arith, ap length is, answer_length p talk.field.items)) (is ∙ (sym (answer_is p talk.field.items (omega (arith, whole))) ∙ ap (answer_to talk.field.items) (sym some)))

pub unanswered : (talk : HostTalk) → talk.stage ≡ at.Challenge → length talk.field.items ≡ 16 → SaysWithin talk → talk.password ≡ None → IsJudged talk (record talk { stage = at.SecurityResult; wanted = 4; field = record { items = [] } })
unanswered talk e whole within none =
    subst (λ (x : List ℕ). IsJudged talk (record talk { stage = at.SecurityResult; wanted = 4; field = record { items = [] }; said = record { items = x } })) (append-nil talk.said.items)
    (answered talk [] e whole within (omega arith) (no_answer talk.field.items ∙ ap (answer_to talk.field.items) (sym none)))

-- ---- the result

pub good_outcome : (talk : HostTalk) → talk.stage ≡ at.SecurityResult → length talk.field.items ≡ 4 → SaysWithin talk → from_be_bytes w32 talk.field.items ≡ 0
    → IsJudged talk (record talk { stage = at.Size; wanted = 4; field = record { items = [] }; said = record { items = talk.said.items ++ 1 ∷ [] } })
good_outcome talk e whole within good =
    let new : HostTalk = record talk { stage = at.Size; wanted = 4; field = record { items = [] }; said = record { items = talk.said.items ++ 1 ∷ [] } } in
    at_stage talk new at.SecurityResult e
    (λ w. let more = says_more talk.said.items (1 ∷ []) talk.sent 30 w.sent (omega (arith, w.said)) in
    record {
      sound = record { fits = (refl, omega arith); room = λ _. omega arith; says = record { sent = more.0; said = more.1 } };
      alike = alike_by (record talk { stage = at.SecurityResult }) new refl (record {
        version = refl;
        types = λ _. refl;
        challenge = λ _. refl;
        result = sym (head_full 4 outcome_judged talk.field.items whole ∙ ap (λ n. unless (not (n == 0)) fault.SecurityFailed (Done tt)) good);
        init = refl;
        said = λ kind asked h. ap (λ x. x ++ 1 ∷ []) h ∙ append_assoc version (kind ∷ answer_to asked talk.password) (1 ∷ []);
      });
      same = record { password = refl; sent = refl };
    })
    within

pub bad_outcome : (talk : HostTalk) → talk.stage ≡ at.SecurityResult → length talk.field.items ≡ 4 → SaysWithin talk → (from_be_bytes w32 talk.field.items == 0) ≡ false → IsJudged talk (record talk { stage = at.Failed })
bad_outcome talk e whole within bad =
    let new : HostTalk = record talk { stage = at.Failed } in
    at_stage talk new at.SecurityResult e
    (λ w. record {
      sound = record { fits = omega (arith, whole); room = λ f. absurd cc; says = record { sent = w.sent; said = w.said } };
      alike = alike_by (record talk { stage = at.SecurityResult }) new refl (record {
        version = refl;
        types = λ _. refl;
        challenge = λ _. refl;
        result = sym (head_full 4 outcome_judged talk.field.items whole ∙ ap (λ b. unless (not b) fault.SecurityFailed (Done tt)) bad);
        init = refl;
        said = λ _ _ h. h;
      });
      same = record { password = refl; sent = refl };
    })
    within

-- ---- ServerInit

-- In ServerInit only that part goes on, and nothing more is said.
in_init : (old new : HostTalk) → new.password ≡ old.password → version_of new ≡ version_of old → ((kind : ℕ) → types_ahead old.password kind new.stage new.wanted new.field.items ≡ types_of old kind)
    → ((asked : List ℕ) → challenge_ahead asked new.stage new.field.items ≡ challenge_ahead asked old.stage old.field.items) → result_of new ≡ result_of old → init_of new ≡ init_of old
    → ((kind : ℕ) (asked : List ℕ) → old.said.items ≡ said old.password kind asked old.stage → new.said.items ≡ said old.password kind asked new.stage) → GoesOnAlike old new
in_init old new same v t c r i s = alike_by old new same (record { version = v; types = t; challenge = c; result = r; init = i; said = s })

pub good_size : (talk : HostTalk) → talk.stage ≡ at.Size → length talk.field.items ≡ 4 → SaysWithin talk → (is_size (wide talk.field.items) && is_size (high talk.field.items)) ≡ true
    → IsJudged talk (record talk { stage = at.Format; wanted = 16; w = wide talk.field.items; h = high talk.field.items; field = record { items = [] } })
good_size talk e whole within good =
    let w : ℕ = wide talk.field.items in
    let h : ℕ = high talk.field.items in
    let new : HostTalk = record talk { stage = at.Format; wanted = 16; w = w; h = h; field = record { items = [] } } in
    at_stage talk new at.Size e
    (λ k. record {
      sound = record { fits = (refl, omega arith); room = λ _. omega arith; says = record { sent = k.sent; said = k.said } };
      alike = in_init (record talk { stage = at.Size }) new refl refl (λ _. refl) (λ _. refl) refl
          (sym (head_full 4 size_judged talk.field.items whole ∙ ap (λ b. unless (not b) fault.BadScreen (padding 16 (u32 >>= kept_name w h))) good)) (λ _ _ h. h);
      same = record { password = refl; sent = refl };
    })
    within

pub bad_size : (talk : HostTalk) → talk.stage ≡ at.Size → length talk.field.items ≡ 4 → SaysWithin talk → (is_size (wide talk.field.items) && is_size (high talk.field.items)) ≡ false → IsJudged talk (record talk { stage = at.BadScreen })
bad_size talk e whole within bad =
    let w : ℕ = wide talk.field.items in
    let h : ℕ = high talk.field.items in
    let new : HostTalk = record talk { stage = at.BadScreen } in
    at_stage talk new at.Size e
    (λ k. record {
      sound = record { fits = omega (arith, whole); room = λ f. absurd cc; says = record { sent = k.sent; said = k.said } };
      alike = in_init (record talk { stage = at.Size }) new refl refl (λ _. refl) (λ _. refl) refl
          (sym (head_full 4 size_judged talk.field.items whole ∙ ap (λ b. unless (not b) fault.BadScreen (padding 16 (u32 >>= kept_name w h))) bad)) (λ _ _ h. h);
      same = record { password = refl; sent = refl };
    })
    within

pub whole_format : (talk : HostTalk) → talk.stage ≡ at.Format → length talk.field.items ≡ 16 → SaysWithin talk → IsJudged talk (record talk { stage = at.NameLength; wanted = 4; field = record { items = [] } })
whole_format talk e whole within =
    let new : HostTalk = record talk { stage = at.NameLength; wanted = 4; field = record { items = [] } } in
    at_stage talk new at.Format e
    (λ k. record {
      sound = record { fits = (refl, omega arith); room = λ _. omega arith; says = record { sent = k.sent; said = k.said } };
      alike = in_init (record talk { stage = at.Format }) new refl refl (λ _. refl) (λ _. refl) refl (sym (head_full 16 (λ _. u32 >>= kept_name talk.w talk.h) talk.field.items whole)) (λ _ _ h. h);
      same = record { password = refl; sent = refl };
    })
    within

-- So much of a name is kept, and so much is read past.
pub no_name : (talk : HostTalk) (rest : ℕ) → talk.stage ≡ at.NameLength → length talk.field.items ≡ 4 → SaysWithin talk → from_be_bytes w32 talk.field.items ≡ 0
    → IsJudged talk (record talk { stage = at.Joined; wanted = 0; rest = rest; field = record { items = [] } })
no_name talk rest e whole within none =
    let new : HostTalk = record talk { stage = at.Joined; wanted = 0; rest = rest; field = record { items = [] } } in
    at_stage talk new at.NameLength e
    (λ k. record {
      sound = record { fits = omega arith; room = λ f. absurd cc; says = record { sent = k.sent; said = k.said } };
      alike = in_init (record talk { stage = at.NameLength }) new refl refl (λ _. refl) (λ _. refl) refl
          (sym (head_full 4 (name_length_judged talk.w talk.h) talk.field.items whole ∙ ap (kept_name talk.w talk.h) none)) (λ _ _ h. h);
      same = record { password = refl; sent = refl };
    })
    within

pub some_name : (talk : HostTalk) (len kept rest : ℕ) → talk.stage ≡ at.NameLength → length talk.field.items ≡ 4 → SaysWithin talk → from_be_bytes w32 talk.field.items ≡ len → min 255 len ≡ kept → len - 255 ≡ rest → 0 < kept
    → IsJudged talk (record talk { stage = at.Name; wanted = kept; rest = rest; field = record { items = [] } })
some_name talk len kept rest e whole within is kept-is rest-is some =
    let new : HostTalk = record talk { stage = at.Name; wanted = kept; rest = rest; field = record { items = [] } } in
    let by : ℕ → ℕ → Reading Joined = λ n m. bytes n >>= name_judged talk.w talk.h m in
    at_stage talk new at.NameLength e
    (λ k. record {
      sound = record { fits = (omega (arith, kept-is), omega arith); room = λ _. some; says = record { sent = k.sent; said = k.said } };
      alike = in_init (record talk { stage = at.NameLength }) new refl refl (λ _. refl) (λ _. refl) refl
          (sym (head_full 4 (name_length_judged talk.w talk.h) talk.field.items whole ∙ (ap (kept_name talk.w talk.h) is ∙ (ap (λ n. by n (len - 255)) kept-is ∙ ap (by kept) rest-is)))) (λ _ _ h. h);
      same = record { password = refl; sent = refl };
    })
    within

pub whole_name : (talk : HostTalk) → talk.stage ≡ at.Name → length talk.field.items ≡ talk.wanted → length talk.field.items ≤ 255 → SaysWithin talk → talk.rest ≡ 0 → IsJudged talk (record talk { stage = at.Joined })
whole_name talk e whole short within none =
    let joined : Joined = record { w = talk.w; h = talk.h; name = talk.field.items } in
    let new : HostTalk = record talk { stage = at.Joined } in
    at_stage talk new at.Name e
    (λ k. record {
      sound = record { fits = short; room = λ f. absurd cc; says = record { sent = k.sent; said = k.said } };
      alike = in_init (record talk { stage = at.Name }) new refl refl (λ _. refl) (λ _. refl) refl
          (sym (head_full talk.wanted (name_judged talk.w talk.h talk.rest) talk.field.items whole ∙ ap (λ n. padding n (Done joined)) none)) (λ _ _ h. h);
      same = record { password = refl; sent = refl };
    })
    within

pub front_of_name : (talk : HostTalk) → talk.stage ≡ at.Name → length talk.field.items ≡ talk.wanted → length talk.field.items ≤ 255 → SaysWithin talk → 0 < talk.rest → IsJudged talk (record talk { stage = at.Rest })
front_of_name talk e whole short within some =
    let new : HostTalk = record talk { stage = at.Rest } in
    at_stage talk new at.Name e
    (λ k. record {
      sound = record { fits = (some, short); room = λ f. absurd cc; says = record { sent = k.sent; said = k.said } };
      alike = in_init (record talk { stage = at.Name }) new refl refl (λ _. refl) (λ _. refl) refl (sym (head_full talk.wanted (name_judged talk.w talk.h talk.rest) talk.field.items whole)) (λ _ _ h. h);
      same = record { password = refl; sent = refl };
    })
    within
