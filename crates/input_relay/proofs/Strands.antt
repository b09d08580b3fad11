-- Each step keeps the rule of the relay. So `settle` may say what became of each place's inputs.
use Rattle.std.proofs.Common.{◌≡◌, ◌≢◌, ℕ, zero, suc, ◌+◌, ◌<◌, ◌≤◌, ◌==◌, Bool, true, false, true≢false, List, [], ◌∷◌, ◌++◌, length, set, sym, refl, ap, ◌∙◌, subst, ⊎_elim, append_assoc, if◌then◌else◌, arith}
use Rattle.std.proofs.lemmas.List.{append-nil}
use Rattle.std.proofs.lemmas.List.Elements.{All-append}
use Rattle.std.proofs.lemmas.Bool.Decides.{eqb_tells}
use Rattle.std.proofs.lemmas.Bool.{cases_lt}
use mathlib.Core.Option.{none, some, some-ne-none, some-injective}
use mathlib.Core.Option as maybe
use Rattle.std.specs.List.{All as Every}
use lib.ListN.{get_elem?}
use Rattle.crossbeam_queue.specs.Fifo.{Pushes, Pops, Forks, Merges, Learns}
use Rattle.crossbeam_queue.proofs.Lists.{at_set, at_snoc}
use Rattle.roles.specs.declared.input.Input.{Input}
use Rattle.input_relay.specs.declared.queue.Message.{Message}
use Rattle.input_relay.specs.declared.queue.Strand.{Strand}
use Rattle.input_relay.specs.declared.queue.View.{View}
use Rattle.input_relay.specs.Relay.{strand, sender, taker, spent, of, FitsSender, FitsTaker, Delivers, grown, seated, Accounted}

at_end : {A : Type 0} (l : List A) (a b : A) (j : ℕ) → get_elem? l j ≢ some b → get_elem? (l ++ a ∷ []) j ≡ some b → j ≡ length l
at_end [] a b zero n e = refl
at_end [] a b (suc j) n e = absurd (some-ne-none b (sym e))
at_end (x ∷ xs) a b zero n e = absurd (n e)
at_end (x ∷ xs) a b (suc j) n e = ap suc (at_end xs a b j n e)

abbrev All : (ℕ → View → Type 0) → List View → Type 0
All F views = (pass : ℕ) (v : View) → get_elem? views pass ≡ some v → F pass v

all_set : (F : ℕ → View → Type 0) (views : List View) (pass : ℕ) (w : View) → F pass w → ((j : ℕ) (u : View) → j ≢ pass → get_elem? views j ≡ some u → F j u) → All F (set views pass w)
all_set F views pass w mine others j u e = ⊎_elim (λ (x : (j ≡ pass) × (w ≡ u)). subst (λ (y : ℕ × View). F y.0 y.1) (λ i. (sym x.0 i, x.1 i)) mine)
    (λ (x : (j ≢ pass) × (get_elem? views j ≡ some u)). others j u x.0 x.1) (at_set views pass j w u e)

pub of-append : (p : ℕ) (xs ys : List Message) → of p (xs ++ ys) ≡ of p xs ++ of p ys
of-append p [] ys = refl
of-append p (x ∷ xs) ys = by (p == x.from) (of-append p xs ys)
  where
    by : (t : Bool) → of p (xs ++ ys) ≡ of p xs ++ of p ys → (if t then (x.input ∷ of p (xs ++ ys)) else of p (xs ++ ys)) ≡ (if t then (x.input ∷ of p xs) else of p xs) ++ of p ys
    by true h = ap (λ l. x.input ∷ l) h
    by false h = h

eq_same : (p q : ℕ) → p ≡ q → (p == q) ≡ true
eq_same p q e = ⊎_elim (λ t. t.0) (λ t. absurd (t.1 e)) (eqb_tells p q)

eq_other : (p q : ℕ) → p ≢ q → (p == q) ≡ false
eq_other p q n = ⊎_elim (λ t. absurd (n t.1)) (λ t. t.0) (eqb_tells p q)

pub grown_here : (sent : ℕ → List Input) (q : ℕ) (x : Input) (p : ℕ) → p ≡ q → grown sent q x p ≡ sent p ++ x ∷ []
grown_here sent q x p e = ap (λ (b : Bool). if b then (sent p ++ x ∷ []) else sent p) (eq_same p q e)

pub grown_else : (sent : ℕ → List Input) (q : ℕ) (x : Input) (p : ℕ) → p ≢ q → grown sent q x p ≡ sent p
grown_else sent q x p n = ap (λ (b : Bool). if b then (sent p ++ x ∷ []) else sent p) (eq_other p q n)

pub seated_here : (seat : ℕ → maybe.Option ℕ) (q : ℕ) (to : maybe.Option ℕ) (p : ℕ) → p ≡ q → seated seat q to p ≡ to
seated_here seat q to p e = ap (λ (b : Bool). if b then to else seat p) (eq_same p q e)

pub seated_else : (seat : ℕ → maybe.Option ℕ) (q : ℕ) (to : maybe.Option ℕ) (p : ℕ) → p ≢ q → seated seat q to p ≡ seat p
seated_else seat q to p n = ap (λ (b : Bool). if b then to else seat p) (eq_other p q n)

-- one message more, of its own place
grows : (sent : ℕ → List Input) (x : Message) (p : ℕ) (ms : List Message) → of p ms ≡ sent p → of p (ms ++ x ∷ []) ≡ grown sent x.from x.input p
grows sent x p ms h = of-append p ms (x ∷ []) ∙ by (p == x.from)
  where
    by : (t : Bool) → of p ms ++ (if t then (x.input ∷ []) else []) ≡ (if t then (sent p ++ x.input ∷ []) else sent p)
    by true = ap (λ l. l ++ x.input ∷ []) h
    by false = append-nil (of p ms) ∙ h

pub begins : Delivers [] (taker 0 [] [] ∷ [])
begins = (
  0,
  (λ _. none),
  (λ _. []),
  [],
  (λ p. refl),
  all_set (λ pass v. FitsSender (λ _. none) (λ _. []) pass v × FitsTaker 0 (λ _. none) (λ _. []) [] pass v) (taker 0 [] [] ∷ []) 0 (taker 0 [] [])
      ((λ no. absurd (true≢false (sym no))), (λ _. (refl, refl, (λ p _. (refl, refl)), λ k s e. absurd (some-ne-none s (sym e)))))
      (λ j u other e. absurd (other (at_end [] (taker 0 [] []) u j (λ x. some-ne-none u (sym x)) e))),
)

pub sends : (n pass : ℕ) (v : View) (x : Message) → v.sends ≡ true → x.from ≡ v.from → Pushes Delivers n pass v x (λ w. w ≡ sender v.from (v.put ++ x.input ∷ []))
sends n pass v x may own items views _ h at =
    let w : View = sender v.from (v.put ++ x.input ∷ []) in let reader = h.0 in let seat = h.1 in let sent = h.2 in let got = h.3 in
    let mine = (h.5 pass v at).0 may in let sent' : ℕ → List Input = grown sent x.from x.input in (
      w,
      (
        reader,
        seat,
        sent',
        got,
        (λ p. ap (of p) (sym (append_assoc got items (x ∷ []))) ∙ grows sent x p (got ++ items) (h.4 p)),
        all_set (λ j u. FitsSender seat sent' j u × FitsTaker reader seat sent' got j u) views pass w
            ((λ _. (mine.0, ap (λ l. l ++ x.input ∷ []) mine.1 ∙ sym (grown_here sent x.from x.input v.from (sym own)))), λ no. absurd (true≢false (sym no)))
            (λ j u other e. let old = h.5 j u e in (
              (λ is. let o = old.0 is in (o.0, o.1 ∙ sym (grown_else sent x.from x.input u.from (λ same. other (some-injective _ _ (sym o.0 ∙ (ap seat (same ∙ own) ∙ mine.0))))))),
              (λ is. let o = old.1 is in (
                o.0,
                o.1,
                (λ p above. let q = o.2 p above in (q.0, grown_else sent x.from x.input p (λ same. some-ne-none pass (sym mine.0 ∙ (ap seat (sym (same ∙ own)) ∙ q.0))) ∙ q.1)),
                (λ k s there. let q = o.3 k s there in (q.0, q.1 ∙ sym (grown_else sent x.from x.input s.from (λ same. some-ne-none pass (sym mine.0 ∙ (ap seat (sym (same ∙ own)) ∙ q.0)))), q.2)),
              )),
            )),
      ),
      refl,
    )

pub takes : (pass : ℕ) (v : View) → v.gets ≡ true → Pops Delivers pass v (λ x w. w ≡ taker v.from (v.got ++ x ∷ []) v.known)
takes pass v may x items views h at =
    let w : View = taker v.from (v.got ++ x ∷ []) v.known in let seat = h.1 in let sent = h.2 in let got = h.3 in
    let mine = (h.5 pass v at).1 may in let got' = got ++ x ∷ [] in (
      w,
      (
        h.0,
        seat,
        sent,
        got',
        (λ p. ap (of p) (append_assoc got (x ∷ []) items) ∙ h.4 p),
        all_set (λ j u. FitsSender seat sent j u × FitsTaker h.0 seat sent got' j u) views pass w
            ((λ no. absurd (true≢false (sym no))), (λ _. (mine.0, ap (λ l. l ++ x ∷ []) mine.1, mine.2, mine.3)))
            (λ j u other e. let old = h.5 j u e in (old.0, (λ is. absurd (other ((old.1 is).0 ∙ sym mine.0))))),
      ),
      refl,
    )

-- the next sender is made of the taker's pass
pub forks : (pass : ℕ) (v : View) → v.gets ≡ true → Forks Delivers pass v (taker (v.from + 1) v.got v.known) (sender v.from [])
forks pass v may items views h at =
    let l : View = taker (v.from + 1) v.got v.known in let r : View = sender v.from [] in let seat = h.1 in let sent = h.2 in let got = h.3 in
    let mine = (h.5 pass v at).1 may in let vs : List View = set views pass l in
    let free = mine.2 v.from (omega arith) in
    let seat' : ℕ → maybe.Option ℕ = seated seat v.from (some (length vs)) in
    let Old : ℕ → View → Type 0 = λ j u. (FitsSender seat' sent j u × FitsTaker h.0 seat' sent got j u) × (u ≢ r) in
    let old : All Old vs = all_set Old views pass l (
      (
        (λ no. absurd (true≢false (sym no))),
        (λ _. (
          mine.0,
          mine.1,
          (λ p above. let q = mine.2 p (omega arith) in (seated_else seat v.from (some (length vs)) p (λ same. absurd (omega arith)) ∙ q.0, q.1)),
          (λ k s there. let q = mine.3 k s there in (seated_else seat v.from (some (length vs)) s.from (λ same. absurd (omega arith)) ∙ q.0, q.1, omega arith)),
        )),
      ),
      (λ same. true≢false (sym (ap (λ (y : View). y.sends) same))),
    )
    (λ j u other e. let o = h.5 j u e in (
      (
        (λ is. let q = o.0 is in (seated_else seat v.from (some (length vs)) u.from (λ same. some-ne-none j (sym q.0 ∙ (ap seat same ∙ free.0))) ∙ q.0, q.1)),
        (λ is. absurd (other ((o.1 is).0 ∙ sym mine.0))),
      ),
      (λ same. some-ne-none j (sym (o.0 (ap (λ (y : View). y.sends) same)).0 ∙ (ap seat (ap (λ (y : View). y.from) same) ∙ free.0))),
    )) in (
      h.0,
      seat',
      sent,
      got,
      h.4,
      λ j u e. ⊎_elim (λ x. (old j u x).0)
          (λ (is : r ≡ u). (
            (λ _. (seated_here seat v.from (some (length vs)) u.from (ap (λ (y : View). y.from) (sym is)) ∙ ap some (sym (at_end vs r u j (λ x. (old j u x).1 (sym is)) e)), ap (λ (y : View). y.put) (sym is) ∙ (sym free.1 ∙ ap sent (ap (λ (y : View). y.from) is)))),
            (λ no. absurd (true≢false (sym (ap (λ (y : View). y.gets) is ∙ no)))),
          )) (at_snoc vs r u j e),
    )

-- one comes that neither sends nor gets
pub watches : (pass : ℕ) (v : View) → Forks Delivers pass v v spent
watches pass v items views h at =
    let Fits : ℕ → View → Type 0 = λ j u. FitsSender h.1 h.2 j u × FitsTaker h.0 h.1 h.2 h.3 j u in
    let old : All Fits (set views pass v) = all_set Fits views pass v (h.5 pass v at) (λ j u other e. h.5 j u e) in (
      h.0,
      h.1,
      h.2,
      h.3,
      h.4,
      λ j u e. ⊎_elim (λ x. old j u x)
          (λ (is : spent ≡ u). ((λ no. absurd (true≢false (sym (ap (λ (y : View). y.sends) is ∙ no)))), (λ no. absurd (true≢false (sym (ap (λ (y : View). y.gets) is ∙ no))))))
          (at_snoc (set views pass v) spent u j e),
    )

-- a sender comes back to the taker's pass
pub merges : (pass : ℕ) (v : View) (other : ℕ) (u : View) → v.gets ≡ true → u.sends ≡ true → Merges Delivers pass v other u (taker v.from v.got (v.known ++ strand u.from u.put ∷ [])) spent
merges pass v other u a b items views h at two at' =
    let both : View = taker v.from v.got (v.known ++ strand u.from u.put ∷ []) in let seat = h.1 in let sent = h.2 in let got = h.3 in
    let mine = (h.5 pass v at).1 a in let vs : List View = set views pass both in
    let was : get_elem? views other ≡ some u = ⊎_elim (λ x. absurd (two x.0)) (λ x. x.1) (at_set views pass other both u at') in let theirs = (h.5 other u was).0 b in
    let below : u.from < v.from = ⊎_elim (λ (t : u.from < v.from). t) (λ (t : v.from ≤ u.from). absurd (some-ne-none other (sym theirs.0 ∙ (mine.2 u.from t).0))) (cases_lt u.from v.from) in
    let seat' : ℕ → maybe.Option ℕ = seated seat u.from none in
    let Now : ℕ → View → Type 0 = λ j y. j ≢ other → FitsSender seat' sent j y × FitsTaker h.0 seat' sent got j y in
    let now : All Now vs = all_set Now views pass both
    (λ _. (
      (λ no. absurd (true≢false (sym no))),
      (λ _. (
        mine.0,
        mine.1,
        (λ p above. let q = mine.2 p above in (seated_else seat u.from none p (λ same. absurd (omega arith)) ∙ q.0, q.1)),
        (λ k s there. ⊎_elim
            (λ (x : get_elem? v.known k ≡ some s). let q = mine.3 k s x in (⊎_elim (λ (t : (s.from == u.from ≡ true) × (s.from ≡ u.from)). seated_here seat u.from none s.from t.1) (λ (t : (s.from == u.from ≡ false) × (s.from ≢ u.from)). seated_else seat u.from none s.from t.1 ∙ q.0) (eqb_tells s.from u.from), q.1, q.2))
            (λ (is : strand u.from u.put ≡ s). (seated_here seat u.from none s.from (ap (λ (y : Strand). y.from) (sym is)), ap (λ (y : Strand). y.sent) (sym is) ∙ (theirs.1 ∙ ap sent (ap (λ (y : Strand). y.from) is)), subst (λ (z : ℕ). z < v.from) (ap (λ (y : Strand). y.from) is) below))
            (at_snoc v.known (strand u.from u.put) s k there)),
      )),
    ))
    (λ j y apart e not. let o = h.5 j y e in (
      (λ is. let q = o.0 is in (seated_else seat u.from none y.from (λ same. not (some-injective _ _ (sym q.0 ∙ (ap seat same ∙ theirs.0)))) ∙ q.0, q.1)),
      (λ is. absurd (apart ((o.1 is).0 ∙ sym mine.0))),
    )) in
    (h.0, seat', sent, got, h.4, all_set (λ j y. FitsSender seat' sent j y × FitsTaker h.0 seat' sent got j y) vs other spent ((λ no. absurd (true≢false (sym no))), (λ no. absurd (true≢false (sym no)))) (λ j y apart e. now j y e apart))

pub learns : (pass : ℕ) (v : View) → v.gets ≡ true → Learns Delivers pass v (λ items. Accounted v.known (v.got ++ items))
learns pass v may items views h at k s there = let mine = (h.5 pass v at).1 may in
    ap (λ l. of s.from (l ++ items)) mine.1 ∙ (h.4 s.from ∙ sym (mine.3 k s there).1)

pub all_tail : {X : Type 0} (P : X → Type 0) (x : X) (xs : List X) → Every P (x ∷ xs) → Every P xs
all_tail P x xs h k d lt = h (suc k) d (omega arith)

all_one : {X : Type 0} (P : X → Type 0) (x : X) → P x → Every P (x ∷ [])
all_one P x p zero d lt = p
all_one P x p (suc k) d lt = absurd (omega arith)

-- one more of which f is what it is of the others
pub all_more : {X Y : Type 0} (f : X → Y) (t u : Y) (xs : List X) (x : X) → Every (λ s. f s ≡ t) xs → u ≡ t → f x ≡ u → Every (λ s. f s ≡ u) (xs ++ x ∷ [])
all_more f t u xs x h e is = All-append (λ s. f s ≡ u) xs (x ∷ []) (λ k d lt. h k d lt ∙ sym e) (all_one (λ s. f s ≡ u) x is)
