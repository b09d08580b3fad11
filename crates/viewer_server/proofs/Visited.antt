-- A visit, step by step. Each step of `Visit` owes that what it keeps stays so.
use Rattle.std.specs.Prelude.{is_ok, is_some, IfOk}
use Rattle.std.proofs.Common.{◌≡◌, ℕ, ◌⊎◌, Bool, true, false, List, [], ◌++◌, Option, None, Result, Ok, Err, inl, inr, refl, sym, ap, subst, ◌∙◌, append_assoc}
use Rattle.fault.specs.declared.kinds.Fault.{Fault}
use Rattle.raster.specs.Update.{Update}
use Rattle.roles.specs.Allowed.{Input}
use Rattle.roles.specs.Held.{left_in}
use Rattle.roles.specs.declared.role.Role.{Role}
use Rattle.link.specs.Links.{LinkState}
use Rattle.reflect_core.specs.Sequential.{Begins}
use Rattle.viewer_session.specs.Viewer.{Setup, Viewer, new_viewer}
use Rattle.viewer_session.specs.Session.{State, Stands, HasOnlyLooked, IsSameSession, without_input}
use Rattle.viewer_session.specs.Acts.{viewer_after, waiting_list}
use Rattle.viewer_server.specs.Steps.{Unpassed, all_passed, WaitsIfLeft, Passes, GoesOn, Says, Offers, Hears}
use Rattle.viewer_server.specs.Moment.{ServesSoFar, IsServing, IsLeft, IsUnderWay, IsVisited}
use Rattle.viewer_server.specs.declared.breaks.Break.{Break}
use Rattle.viewer_server.specs.declared.breaks.Break.TheVariants.{At, Refused}
use Rattle.viewer_server.proofs.Servings.{serving_begins, serving_still, serving_anew, serving_passed, serving_read, serving_relayed, serving_known, serving_offered, serving_said, serving_heard, waits_after, held_by}
use Rattle.viewer_server.proofs.Served.{allowed_in_all, unread_by}

module _ {S : Type 0} (looks cuts : S → ℕ → S → Type 0) (a : S) (s : Setup) (p : Viewer) (x : List Input) (old : LinkState) where
  -- It is served no longer.
  left_by : (b c : S) (us : List Update) (most : ℕ) (st : State) (box : Unpassed) (y : List Input) (is_offered : Bool) (now : LinkState) → IsServing looks cuts a b us most s p st box x y is_offered old now → WaitsIfLeft box → (c ≡ b) ⊎ HasOnlyLooked looks b c
      → IsLeft looks cuts a c us s p st box x y old now
  left_by b c us most st box y is_offered now k unread seen =
      record {
        acts = k.acts;
        behind = b;
        left = box.unread;
        sent = k.sent;
        may_be = k.may_be;
        shown = k.shown;
        seen = seen;
        taken = k.taken;
        unread = unread_by (viewer_after s us p k.acts) box k.waiting unread;
        given = k.given;
        holds = λ lw lh. held_by s us p k.acts st lw lh k.begun k.may_be k.stands;
        took = k.took;
        all = allowed_in_all s st (viewer_after s us p k.acts) box k.sent k.stands k.waiting k.passed;
      }

  -- ---- while it is served

  pub under_way : (b : S) (us : List Update) (most : ℕ) (is : Bool) (st : State) (box : Unpassed) (y : List Input) (now : LinkState) → is ≡ true → IsVisited is looks cuts a b us most s p st box x y old now → IsUnderWay looks cuts a b us most s p st box x y false old now
  under_way b us most false st box y now e k = absurd cc
  under_way b us most true st box y now e k = k

  pub visited : (b : S) (us : List Update) (most : ℕ) (is : Bool) (st : State) (box : Unpassed) (y : List Input) (now : LinkState) → is ≡ true → IsUnderWay looks cuts a b us most s p st box x y false old now → IsVisited is looks cuts a b us most s p st box x y old now
  visited b us most false st box y now e k = absurd cc
  visited b us most true st box y now e k = k

  pub anew : (b : S) (us : List Update) (most : ℕ) (st : State) (box : Unpassed) (y : List Input) (is_offered : Bool) (now : LinkState) → IsUnderWay looks cuts a b us most s p st box x y is_offered old now → IsUnderWay looks cuts a b us most s p st box x y false old now
  anew b us most st box y is_offered now k = (k.0, serving_anew looks cuts a b us most s p st box x y is_offered old now k.1)

  pub relayed : (may_refuse : Fault → Type 0) (b : S) (us : List Update) (most : ℕ) (st next : State) (box after : Unpassed) (y z : List Input) (answer : Result Bool Break) (now : LinkState) → IsUnderWay looks cuts a b us most s p st box x y false old now → IsSameSession st next → WaitsIfLeft after
      → GoesOn may_refuse answer st next box after y z → IsUnderWay looks cuts a b us most s p next after x z false old now
  relayed may_refuse b us most st next box after y z (Ok is_full) now k same left g = (left, serving_relayed looks cuts may_refuse a b us most s p st next box after is_full x y z old now k.1 same g)
  relayed may_refuse b us most st next box after y z (Err (At fault)) now k same left g =
      (left, serving_read looks cuts a b us most s p st next g.0 after x z false old now (serving_passed looks cuts may_refuse a b us most s p st box g.0 false x y z old now k.1 g.1) same g.2)
  relayed may_refuse b us most st next box after y z (Err (Refused fault)) now k same left g =
      (left, subst (λ (t : State). IsServing looks cuts a b us most s p t after x z false old now) (sym g.1) (serving_still looks cuts a b us most s p st box after x y z false old now now k.1 g.0.1 g.0.2 refl refl))

  pub offered : (may_end : Type 0) (b c : S) (us known : List Update) (most now_most : ℕ) (st next : State) (box : Unpassed) (y : List Input) (is_offered : Bool) (now : LinkState) → IsUnderWay looks cuts a b us most s p st box x y false old now → Begins us known
      → Offers looks cuts may_end b c st next known most now_most (Ok is_offered) → IsUnderWay looks cuts a c known now_most s p next box x y is_offered old now
  offered may_end b c us known most now_most st next box y is_offered now k begins o = (k.0, serving_offered looks cuts may_end a b c us known most now_most s p st next box x y is_offered old now k.1 begins o)

  -- The source has ended.
  pub gone : (may_end : Type 0) (b c : S) (us known : List Update) (most now_most : ℕ) (st next : State) (box : Unpassed) (y : List Input) (fault : Fault) (now : LinkState) → IsUnderWay looks cuts a b us most s p st box x y false old now → Begins us known
      → Offers looks cuts may_end b c st next known most now_most (Err fault) → IsLeft looks cuts a c known s p next box x y old now
  gone may_end b c us known most now_most st next box y fault now k begins o =
      subst (λ (t : State). IsLeft looks cuts a c known s p t box x y old now) (sym o.2)
      (left_by b c known most st box y false now (serving_known looks cuts a b b us known most most s p st st box x y false old now k.1 begins refl refl refl) k.0 (inr o.3))

  pub offered_or_gone : (may_end : Type 0) (b c : S) (us known : List Update) (most now_most : ℕ) (st next : State) (box : Unpassed) (y : List Input) (answer : Result Bool Fault) (now : LinkState) → IsUnderWay looks cuts a b us most s p st box x y false old now → Begins us known
      → Offers looks cuts may_end b c st next known most now_most answer → IsVisited (is_ok answer) looks cuts a c known now_most s p next box x y old now
  offered_or_gone may_end b c us known most now_most st next box y (Ok is_offered) now k begins o =
      anew c known now_most next box y is_offered now (offered may_end b c us known most now_most st next box y is_offered now k begins o)
  offered_or_gone may_end b c us known most now_most st next box y (Err fault) now k begins o = gone may_end b c us known most now_most st next box y fault now k begins o

  pub said : (b : S) (us : List Update) (most : ℕ) (st next : State) (box : Unpassed) (y : List Input) (is_offered : Bool) (now new : LinkState) → IsUnderWay looks cuts a b us most s p st box x y is_offered old now → Says st next now new
      → IsUnderWay looks cuts a b us most s p next box x y is_offered old new
  said b us most st next box y is_offered now new k says = (k.0, serving_said looks cuts a b us most s p st next box x y is_offered old now new k.1 says)

  pub heard : (b : S) (us : List Update) (most : ℕ) (st next : State) (box after : Unpassed) (y : List Input) (is_offered : Bool) (answer : Result Bool Fault) (now new : LinkState) → IsUnderWay looks cuts a b us most s p st box x y is_offered old now → box ≡ all_passed → IsSameSession st next
      → Hears answer st next after now new → IsUnderWay looks cuts a b us most s p next after x y false old new
  heard b us most st next box after y is_offered answer now new k empty same h = (waits_after answer st next after now new h, serving_heard looks cuts a b us most s p st next box after x y is_offered answer old now new k.1 empty same h)

  pub flushed : (b : S) (us : List Update) (most : ℕ) (is : Bool) (st : State) (box : Unpassed) (y : List Input) (now new : LinkState) → new ≡ now → IsVisited is looks cuts a b us most s p st box x y old now → IsVisited is looks cuts a b us most s p st box x y old new
  flushed b us most is st box y now new e k = subst (λ (l : LinkState). IsVisited is looks cuts a b us most s p st box x y old l) (sym e) k

  -- ---- once it has left

  pub visited_ended : (b : S) (us : List Update) (most : ℕ) (is : Bool) (st : State) (box : Unpassed) (y : List Input) (now new : LinkState) → new ≡ now → IsVisited is looks cuts a b us most s p st box x y old now → IsLeft looks cuts a b us s p st box x y old new
  visited_ended b us most true st box y now new e k = subst (λ (l : LinkState). IsLeft looks cuts a b us s p st box x y old l) (sym e) (left_by b b us most st box y false now k.1 k.0 (inl refl))
  visited_ended b us most false st box y now new e k = subst (λ (l : LinkState). IsLeft looks cuts a b us s p st box x y old l) (sym e) k

  left_passed : (may_refuse : Fault → Type 0) (b : S) (us : List Update) (st : State) (box next : Unpassed) (y z : List Input) (answer : Result Bool Fault) (now : LinkState) → IsLeft looks cuts a b us s p st box x y old now → Passes may_refuse answer box next y z
      → IsLeft looks cuts a b us s p st next x z old now
  left_passed may_refuse b us st box next y z (Ok true) now k e = subst (λ (i : Unpassed). IsLeft looks cuts a b us s p st i x z old now) (sym e.1) (subst (λ (t : List Input). IsLeft looks cuts a b us s p st box x t old now) (sym e.2) k)
  left_passed may_refuse b us st box next y z (Ok false) now k e =
      let w : List Input = waiting_list box.waiting in
      record {
        acts = k.acts;
        behind = k.behind;
        left = k.left;
        sent = k.sent ++ w;
        may_be = k.may_be;
        shown = k.shown;
        seen = k.seen;
        taken = k.taken;
        unread = k.unread;
        given = k.given;
        holds = k.holds;
        took = e.1 ∙ (ap (λ t. t ++ w) k.took ∙ append_assoc x k.sent w);
        all = k.all ∙ (sym (append_assoc k.sent w (left_in st.held)) ∙ ap (λ (i : Unpassed). (k.sent ++ w) ++ (waiting_list i.waiting ++ left_in st.held)) (sym e.0));
      }
  left_passed may_refuse b us st box next y z (Err fault) now k e = subst (λ (i : Unpassed). IsLeft looks cuts a b us s p st i x z old now) (sym e.1) (subst (λ (t : List Input). IsLeft looks cuts a b us s p st box x t old now) (sym e.2) k)

  pub visited_passed : (may_refuse : Fault → Type 0) (b : S) (us : List Update) (most : ℕ) (is : Bool) (st : State) (box next : Unpassed) (y z : List Input) (answer : Result Bool Fault) (now : LinkState) → is ≡ false → IsVisited is looks cuts a b us most s p st box x y old now
      → Passes may_refuse answer box next y z → IsVisited is looks cuts a b us most s p st next x z old now
  visited_passed may_refuse b us most true st box next y z answer now e k passes = absurd cc
  visited_passed may_refuse b us most false st box next y z answer now e k passes = left_passed may_refuse b us st box next y z answer now k passes

  pub visited_released : (b : S) (us : List Update) (most : ℕ) (is : Bool) (st after : State) (box next : Unpassed) (y : List Input) (now : LinkState) → is ≡ false → IsVisited is looks cuts a b us most s p st box x y old now
      → box.waiting ≡ None → left_in st.held ≡ waiting_list next.waiting ++ left_in after.held → IsVisited is looks cuts a b us most s p after next x y old now
  visited_released b us most true st after box next y now e k none released = absurd cc
  visited_released b us most false st after box next y now e k none released =
      record {
        acts = k.acts;
        behind = k.behind;
        left = k.left;
        sent = k.sent;
        may_be = k.may_be;
        shown = k.shown;
        seen = k.seen;
        taken = k.taken;
        unread = k.unread;
        given = k.given;
        holds = k.holds;
        took = k.took;
        all = k.all ∙ (ap (λ (o : Option Input). k.sent ++ (waiting_list o ++ left_in st.held)) none ∙ ap (λ t. k.sent ++ t) released);
      }

  -- ---- at every moment

  so_far_left : (b : S) (us : List Update) (st : State) (box : Unpassed) (y : List Input) (now : LinkState) → IsLeft looks cuts a b us s p st box x y old now → ServesSoFar looks cuts a b us s p x y old now
  so_far_left b us st box y now k =
      record {
        acts = k.acts;
        behind = k.behind;
        left = k.left;
        sent = k.sent;
        may_be = k.may_be;
        shown = k.shown;
        seen = k.seen;
        taken = k.taken;
        unread = k.unread;
        given = k.given;
        holds = k.holds;
        took = k.took;
        begins = (waiting_list box.waiting ++ left_in st.held, k.all);
      }

  pub so_far : (b : S) (us : List Update) (most : ℕ) (is : Bool) (st : State) (box : Unpassed) (y : List Input) (now : LinkState) → IsVisited is looks cuts a b us most s p st box x y old now → ServesSoFar looks cuts a b us s p x y old now
  so_far b us most true st box y now k = so_far_left b us st box y now (left_by b b us most st box y false now k.1 k.0 (inl refl))
  so_far b us most false st box y now k = so_far_left b us st box y now k

-- Nothing was done yet.
pub visited_begins : {S : Type 0} (looks cuts : S → ℕ → S → Type 0) (source : S) (us : List Update) (most : ℕ) (s : Setup) (role : Role) (greet : Bool) (st : State) (box : Unpassed) (sent : List Input) (link : LinkState)
    → st.asked.last ≡ None → box ≡ all_passed → Stands s st (new_viewer role greet) → IsVisited true looks cuts source source us most s (new_viewer role greet) st box sent sent link link
visited_begins looks cuts source us most s role greet st box sent link uncut empty k =
    (inl (ap (λ (i : Unpassed). i.unread) empty), serving_begins looks cuts source us most s role greet st box sent link uncut empty k)

-- Where a turn was offered, all that is under way stays so.
pub keeps_offered : {S : Type 0} (looks cuts : S → ℕ → S → Type 0) (may_end : Type 0) (b c : S) (us known : List Update) (most now_most : ℕ) (st next : State) (box : Unpassed) (y : List Input) (answer : Result Bool Fault) (now : LinkState) → Begins us known
    → Offers looks cuts may_end b c st next known most now_most answer
    → IfOk answer (λ is_offered. (a : S) (s : Setup) (p : Viewer) (x : List Input) (old : LinkState) → IsUnderWay looks cuts a b us most s p st box x y false old now → IsUnderWay looks cuts a c known now_most s p next box x y is_offered old now)
keeps_offered looks cuts may_end b c us known most now_most st next box y (Ok is_offered) now begins o = λ a s p x old k. offered looks cuts a s p x old may_end b c us known most now_most st next box y is_offered now k begins o
keeps_offered looks cuts may_end b c us known most now_most st next box y (Err fault) now begins o = tt
