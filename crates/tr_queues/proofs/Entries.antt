-- The lines and the queues follow what waits, where an instance comes last or goes.
use Rattle.std.proofs.Common.{◌≡◌, ◌∙◌, ◌+◌, ◌≤◌, ◌==◌, ◌&&◌, ◌||◌, ℕ, List, [], ◌∷◌, ◌++◌, Bool, true, false, Option, Some, None, if◌then◌else◌, filter, is_some, length, map, refl, sym, ap, subst, arith}
use Rattle.std.proofs.lemmas.List.{append-nil, length-append, length-map, map-append}
use Rattle.std.proofs.lemmas.List.Elements.{filter-append}
use Rattle.indexmap.specs.IndexMap.{IndexMap}
use Rattle.tr_pending.specs.declared.instance.Instance.{Instance}
use Rattle.tr_pending.specs.Waiting.{is_waiting}
use Rattle.tr_model.specs.declared.rows.Target.{Target}
use Rattle.tr_model.specs.declared.rows.Waiting.{Waiting}
use Rattle.tr_model.specs.Journals.{IsSorted}
use Rattle.tr_model.specs.Tables.{same_target}
use Rattle.tr_model.proofs.Sorted.{sorted_filter}
use Rattle.tr_queues.specs.Changes.{queue_in}
use Rattle.tr_queues.specs.declared.lines.Line.{Line}
use Rattle.tr_queues.specs.declared.lines.LineKey.{LineKey}
use Rattle.tr_queues.specs.declared.lines.Queue.{Queue}
use Rattle.tr_queues.specs.Lines.{AreLines, IsQueue, is_key, line_at, line_of, longer, queue_at}
use Rattle.tr_queues.specs.Queues.{is_one}
use Rattle.tr_model.proofs.Costs.{filter-le-length}
use Rattle.tr_queues.proofs.Keys.{key_is, key_self, one_is_key, same_both, same_is, same_self}

-- parts of what waits

line_last : (ws : List Waiting) (w : Waiting) → Some (longer w.instance.n (line_of ws)) ≡ line_of (ws ++ w ∷ [])
line_last [] w = refl
line_last (x ∷ ws) w =
    let n : length (ws ++ w ∷ []) ≡ length ws + 1 = length-append ws (w ∷ []) in
    let c : 1 + length ws + 1 ≡ 1 + length (ws ++ w ∷ []) = omega (arith, n) in
    λ i. Some (record { first = x.instance.n; count = c i })

filter_mid : (p : Waiting → Bool) (A B : List Waiting) (w : Waiting) → filter p (A ++ w ∷ B) ≡ filter p A ++ (if p w then w ∷ filter p B else filter p B)
filter_mid p A B w = filter-append p A (w ∷ B)

queue_parts : (q : Target) (A B : List Waiting) → queue_in q (A ++ B) ≡ queue_in q A ++ queue_in q B
queue_parts q A B = ap (map (λ w. w.instance)) (filter-append (λ w. same_target q w.target) A B) ∙ map-append (λ (w : Waiting). w.instance) (filter (λ w. same_target q w.target) A) (filter (λ w. same_target q w.target) B)

queue_mid : (q : Target) (A B : List Waiting) (w : Waiting) (b : Bool) → same_target w.target q ≡ b → queue_in q (A ++ w ∷ B) ≡ (if b then queue_in q A ++ w.instance ∷ queue_in q B else queue_in q A ++ queue_in q B)
queue_mid q A B w b e = queue_parts q A (w ∷ B) ∙ go b (same_both q w.target ∙ e)
  where
    G : List Waiting
    G = filter (λ v. same_target q v.target) B

    go : (b : Bool) → same_target q w.target ≡ b → queue_in q A ++ queue_in q (w ∷ B) ≡ (if b then queue_in q A ++ w.instance ∷ queue_in q B else queue_in q A ++ queue_in q B)
    go true e = ap (λ c. queue_in q A ++ map (λ v. v.instance) (if c then w ∷ G else G)) e
    go false e = ap (λ c. queue_in q A ++ map (λ v. v.instance) (if c then w ∷ G else G)) e

-- a signal waits where its line isn't empty
pub line_waits : (q : Target) (s : ℕ) (ws : List Waiting) → is_some (line_of (filter (is_one q s) ws)) ≡ is_waiting s (queue_in q ws)
line_waits q s [] = refl
line_waits q s (w ∷ ws) = go (same_target q w.target) (w.instance.sig == s) refl (line_waits q s ws)
  where
    F : List Waiting
    F = filter (is_one q s) ws

    G : List Waiting
    G = filter (λ v. same_target q v.target) ws

    go : (b c : Bool) → (w.instance.sig == s) ≡ c → is_some (line_of F) ≡ is_waiting s (queue_in q ws) → is_some (line_of (if b && c then w ∷ F else F)) ≡ is_waiting s (map (λ v. v.instance) (if b then w ∷ G else G))
    go true true c rest = sym (ap (λ d. d || is_waiting s (queue_in q ws)) c)
    go true false c rest = rest ∙ sym (ap (λ d. d || is_waiting s (queue_in q ws)) c)
    go false true c rest = rest
    go false false c rest = rest

-- one more, which comes last

module _ {S R : Type 0} (L M : IndexMap LineKey Line S) (K N : IndexMap Target Queue R) (w : Waiting) where
  module _ (ws : List Waiting) (old : AreLines L K ws) where
    lined_more : ((q : Target) (s : ℕ) → line_at M q s ≡ (if is_key w q s then Some (longer w.instance.n (line_at L w.target w.instance.sig)) else line_at L q s)) → (q : Target) (s : ℕ) → line_at M q s ≡ line_of (filter (is_one q s) (ws ++ w ∷ []))
    lined_more new q s = new q s ∙ (go (is_key w q s) refl ∙ sym (ap line_of (filter_mid (is_one q s) ws [] w)))
      where
        F : List Waiting
        F = filter (is_one q s) ws

        here : is_key w q s ≡ true → line_at L w.target w.instance.sig ≡ line_of F
        here e = let k = key_is w q s e in (λ i. line_at L (k.0 i) (k.1 i)) ∙ old.lined q s

        go : (b : Bool) → is_key w q s ≡ b → (if b then Some (longer w.instance.n (line_at L w.target w.instance.sig)) else line_at L q s) ≡ line_of (F ++ (if is_one q s w then w ∷ [] else []))
        go true e = ap (λ l. Some (longer w.instance.n l)) (here e) ∙ (line_last F w ∙ sym (ap (λ c. line_of (F ++ (if c then w ∷ [] else []))) (one_is_key w q s ∙ e)))
        go false e = old.lined q s ∙ (sym (ap line_of (append-nil F)) ∙ sym (ap (λ c. line_of (F ++ (if c then w ∷ [] else []))) (one_is_key w q s ∙ e)))

    queued_more : ((q : Target) (is : List Instance) → same_target w.target q ≡ true → IsQueue (queue_at K w.target) is → IsQueue (queue_at N q) (is ++ w.instance ∷ []))
        → ((q : Target) → same_target w.target q ≡ false → queue_at N q ≡ queue_at K q) → (q : Target) → IsQueue (queue_at N q) (queue_in q (ws ++ w ∷ []))
    queued_more own others q = go (same_target w.target q) refl
      where
        go : (b : Bool) → same_target w.target q ≡ b → IsQueue (queue_at N q) (queue_in q (ws ++ w ∷ []))
        go true e = subst (IsQueue (queue_at N q)) (sym (queue_mid q ws [] w true e)) (own q (queue_in q ws) e (subst (λ t. IsQueue (queue_at K t) (queue_in q ws)) (sym (same_is w.target q e)) (old.queued q)))
        go false e = subst (IsQueue (queue_at N q)) (sym (queue_mid q ws [] w false e ∙ append-nil (queue_in q ws))) (subst (λ x. IsQueue x (queue_in q ws)) (sym (others q e)) (old.queued q))

    pub lines_more : ((q : Target) (s : ℕ) → line_at M q s ≡ (if is_key w q s then Some (longer w.instance.n (line_at L w.target w.instance.sig)) else line_at L q s))
        → ((q : Target) (is : List Instance) → same_target w.target q ≡ true → IsQueue (queue_at K w.target) is → IsQueue (queue_at N q) (is ++ w.instance ∷ []))
        → ((q : Target) → same_target w.target q ≡ false → queue_at N q ≡ queue_at K q) → AreLines M N (ws ++ w ∷ [])
    lines_more new own others = record { lined = lined_more new; queued = queued_more own others }

  -- one goes

  module _ (A B : List Waiting) (sorted : IsSorted (A ++ w ∷ B)) (old : AreLines L K (A ++ w ∷ B)) where
    abbrev rest : List Waiting
    rest = filter (is_one w.target w.instance.sig) B

    at_own : filter (is_one w.target w.instance.sig) (A ++ w ∷ B) ≡ filter (is_one w.target w.instance.sig) A ++ w ∷ rest
    at_own = filter_mid (is_one w.target w.instance.sig) A B w ∙ ap (λ b. filter (is_one w.target w.instance.sig) A ++ (if b then w ∷ rest else rest)) (key_self w)

    lined_less : ((q : Target) (s : ℕ) → is_key w q s ≡ false → line_at M q s ≡ line_at L q s)
        → ((q : Target) (s : ℕ) (before : List Waiting) → is_key w q s ≡ true → IsSorted (before ++ w ∷ rest) → line_at L w.target w.instance.sig ≡ line_of (before ++ w ∷ rest) → line_at M q s ≡ line_of (before ++ rest))
        → (q : Target) (s : ℕ) → line_at M q s ≡ line_of (filter (is_one q s) (A ++ B))
    lined_less others own q s = go (is_key w q s) refl
      where
        go : (b : Bool) → is_key w q s ≡ b → line_at M q s ≡ line_of (filter (is_one q s) (A ++ B))
        go true e =
            let k = key_is w q s e in
            let up : IsSorted (filter (is_one w.target w.instance.sig) A ++ w ∷ rest) = subst IsSorted at_own (sorted_filter (is_one w.target w.instance.sig) (A ++ w ∷ B) sorted) in
            own q s (filter (is_one w.target w.instance.sig) A) e up (old.lined w.target w.instance.sig ∙ ap line_of at_own)
            ∙ (sym (ap line_of (filter-append (is_one w.target w.instance.sig) A B)) ∙ (λ i. line_of (filter (is_one (k.0 i) (k.1 i)) (A ++ B))))
        go false e =
            others q s e ∙ (old.lined q s
            ∙ (ap line_of (filter_mid (is_one q s) A B w ∙ ap (λ b. filter (is_one q s) A ++ (if b then w ∷ filter (is_one q s) B else filter (is_one q s) B)) (one_is_key w q s ∙ e))
            ∙ sym (ap line_of (filter-append (is_one q s) A B))))

    queued_less : (stays : Bool) → stays ≡ is_waiting w.instance.sig (queue_in w.target (A ++ B))
        → ((q : Target) (before after : List Instance) → same_target w.target q ≡ true → stays ≡ is_waiting w.instance.sig (before ++ after) → IsQueue (queue_at K w.target) (before ++ w.instance ∷ after) → IsQueue (queue_at N q) (before ++ after))
        → ((q : Target) → same_target w.target q ≡ false → queue_at N q ≡ queue_at K q) → (q : Target) → IsQueue (queue_at N q) (queue_in q (A ++ B))
    queued_less stays is own others q = go (same_target w.target q) refl
      where
        t : Target
        t = w.target

        go : (b : Bool) → same_target w.target q ≡ b → IsQueue (queue_at N q) (queue_in q (A ++ B))
        go true e =
            let mid : IsQueue (queue_at K t) (queue_in t A ++ w.instance ∷ queue_in t B) = subst (IsQueue (queue_at K t)) (queue_mid t A B w true (same_self t)) (old.queued t) in
            let less : IsQueue (queue_at N q) (queue_in t A ++ queue_in t B) = own q (queue_in t A) (queue_in t B) e (is ∙ ap (is_waiting w.instance.sig) (queue_parts t A B)) mid in
            subst (λ u. IsQueue (queue_at N q) (queue_in u (A ++ B))) (same_is t q e) (subst (IsQueue (queue_at N q)) (sym (queue_parts t A B)) less)
        go false e =
            let whole : queue_in q (A ++ w ∷ B) ≡ queue_in q (A ++ B) = queue_mid q A B w false e ∙ sym (queue_parts q A B) in
            subst (λ x. IsQueue x (queue_in q (A ++ B))) (sym (others q e)) (subst (IsQueue (queue_at K q)) whole (old.queued q))

    pub lines_less : (stays : Bool) → stays ≡ is_some (line_at M w.target w.instance.sig)
        → ((q : Target) (s : ℕ) → is_key w q s ≡ false → line_at M q s ≡ line_at L q s)
        → ((q : Target) (s : ℕ) (before : List Waiting) → is_key w q s ≡ true → IsSorted (before ++ w ∷ rest) → line_at L w.target w.instance.sig ≡ line_of (before ++ w ∷ rest) → line_at M q s ≡ line_of (before ++ rest))
        → ((q : Target) (before after : List Instance) → same_target w.target q ≡ true → stays ≡ is_waiting w.instance.sig (before ++ after) → IsQueue (queue_at K w.target) (before ++ w.instance ∷ after) → IsQueue (queue_at N q) (before ++ after))
        → ((q : Target) → same_target w.target q ≡ false → queue_at N q ≡ queue_at K q) → AreLines M N (A ++ B)
    lines_less stays is line_others line_own own others =
        let lined = lined_less line_others line_own in
        let waits : stays ≡ is_waiting w.instance.sig (queue_in w.target (A ++ B)) = is ∙ (ap is_some (lined w.target w.instance.sig) ∙ line_waits w.target w.instance.sig (A ++ B)) in
        record { lined = lined; queued = queued_less stays waits own others }

    -- it has a line and a queue
    pub has_line : is_some (line_at L w.target w.instance.sig) ≡ true
    has_line = ap is_some (old.lined w.target w.instance.sig ∙ ap line_of at_own) ∙ go (filter (is_one w.target w.instance.sig) A)
      where
        go : (before : List Waiting) → is_some (line_of (before ++ w ∷ rest)) ≡ true
        go [] = refl
        go (x ∷ before) = refl

    pub has_queue : is_some (queue_at K w.target) ≡ true
    has_queue = go (queue_at K w.target) (queue_in w.target A) (subst (IsQueue (queue_at K w.target)) (queue_mid w.target A B w true (same_self w.target)) (old.queued w.target))
      where
        go : (x : Option Queue) (before : List Instance) → IsQueue x (before ++ w.instance ∷ queue_in w.target B) → is_some x ≡ true
        go (Some x) before h = refl
        go None [] h = cc
        go None (i ∷ before) h = cc

-- no line and no queue is longer than all that waits

line_count : (F : List Waiting) (l : Line) → line_of F ≡ Some l → l.count ≡ length F
line_count [] l h = cc
line_count (x ∷ F) l h = let n = go _ _ h in omega (arith, n)
  where
    go : (a b : Line) → Some a ≡ Some b → b.count ≡ a.count
    go a b e = cc

module _ {S R : Type 0} (L : IndexMap LineKey Line S) (K : IndexMap Target Queue R) (ws : List Waiting) (old : AreLines L K ws) where
  pub line_few : (q : Target) (s : ℕ) (l : Line) → line_at L q s ≡ Some l → l.count ≤ length ws
  line_few q s l e =
      let n = line_count (filter (is_one q s) ws) l (sym (old.lined q s) ∙ e) in
      let few = filter-le-length (is_one q s) ws in
      omega (arith, n, few)

  pub queue_few : (q : Target) (x : Queue) → queue_at K q ≡ Some x → x.count ≤ length ws
  queue_few q x e =
      let n = (subst (λ y. IsQueue y (queue_in q ws)) e (old.queued q)).0 in
      let m = length-map (filter (λ w. same_target q w.target) ws) (λ (w : Waiting). w.instance) in
      let few = filter-le-length (λ w. same_target q w.target) ws in
      omega (arith, n, m, few)
