use Rattle.std.proofs.Common.{◌≡◌, ◌≤◌, ◌<◌, ◌-◌, ◌∙◌, ap, sym, refl, true, false, length, Some, arith}
use Rattle.std.specs.Arc.{arc_value}
use Rattle.std.specs.Map.{keys_of}
use Rattle.lru.specs.LruCache.{last_entry}
use Rattle.page_cache.specs.Pages.{page_size}
use Rattle.page_cache.specs.CacheLists.{has}
use Rattle.page_cache.proofs.CacheLemmas.{keys-promoted, IsCache-promoted, room_for_new}
use Rattle.page_cache.proofs.EvictLemmas.{evict_none}
use Rattle.page_cache.proofs.KeepLemmas.{has_from_promote, unpromoted, put_keeps, pop_keeps, keeps_all, keeps_list}
use Rattle.page_cache.proofs.cache.PageCache.keep.Goals as goal

pub invariant_of-self : goal.invariant_of-self
invariant_of-self g c =
    let at = c.self.inside in
    rw c.promote.ensures.entries (IsCache-promoted g.F.Tree.files (λ p. arc_value p) at.pages at.bytes at.limit c.file-file.result c.self.invariant)

pub returns-then-promote : goal.returns-then-promote
returns-then-promote g c =
    let pages = c.self.inside.pages in
    let file : c.file-file.result ≡ arc_value c.args.page = c.file-file.ensures.number ∙ c.deref.ensures in
    let there : has c.file-file.result (keys_of pages.entries) ≡ true = has_from_promote c.file-file.result pages c.promote.result true c.promote.ensures.value c.if-promote.true in
    let size : c.size-size.result ≡ page_size g.F.Tree.files (arc_value c.args.page) = c.size-size.ensures ∙ ap (page_size g.F.Tree.files) c.deref-2.ensures in (
      rw (← c.self.view_is) (omega (arith, size, c.if-size-self.false)),
      rw (← file, c.promote.ensures.entries, keys-promoted c.file-file.result pages.entries, ← c.self.view_is, there) refl,
    )

pub prove-unreachable-requires : goal.prove-unreachable-requires
prove-unreachable-requires g c =
    let pages = c.self.inside.pages in
    let file = c.file-file.result in
    let none : has file (keys_of pages.entries) ≡ false = has_from_promote file pages c.promote.result false c.promote.ensures.value c.if-promote.false in
    let same : c.promote.new.self ≡ pages = unpromoted file pages c.promote.new.self c.promote.result c.promote.ensures.value c.if-promote.false c.promote.ensures.entries in
    let valid = rw same at c.len.ensures.valid in
    let capacity : length pages.entries < length g.F.Tree.files = room_for_new file (length g.F.Tree.files) pages.entries valid.0 c.self.invariant.there none c.file-file.ensures.there in
    let len : c.len.result ≡ length pages.entries = rw same at c.len.ensures.len in
    let cap = rw same at c.cap.ensures in
    omega (arith, capacity, len, cap, c.get.ensures.value, c.if-prove.true, c.self.invariant.capacity)

pub invariant_of-self-in_default : goal.invariant_of-self-in_default
invariant_of-self-in_default g c =
    let same = unpromoted c.file-file.result c.self.inside.pages c.promote.new.self c.promote.result c.promote.ensures.value c.if-promote.false c.promote.ensures.entries in
    rw (c.in_default.ensures.err, same) c.self.invariant

pub returns-in_default : goal.returns-in_default
returns-in_default g c =
    let pages = c.self.inside.pages in
    let same = unpromoted c.file-file.result pages c.promote.new.self c.promote.result c.promote.ensures.value c.if-promote.false c.promote.ensures.entries in
    let file : c.file-file.result ≡ arc_value c.args.page = c.file-file.ensures.number ∙ c.deref.ensures in
    let none : has c.file-file.result (keys_of pages.entries) ≡ false = has_from_promote c.file-file.result pages c.promote.result false c.promote.ensures.value c.if-promote.false in
    let size : c.size-size.result ≡ page_size g.F.Tree.files (arc_value c.args.page) = c.size-size.ensures ∙ ap (page_size g.F.Tree.files) c.deref-2.ensures in (
      rw (← c.self.view_is) (omega (arith, size, c.if-size-self.false)),
      rw (← file, ← c.self.view_is) none,
      rw (c.in_default.ensures.err, same) c.self.view_is,
    )

pub loop-self-init : goal.loop-self-init
loop-self-init g c =
    let at = c.self.inside in
    let file = c.file-file.result in
    let same = unpromoted file at.pages c.promote.new.self c.promote.result c.promote.ensures.value c.if-promote.false c.promote.ensures.entries in
    let none = has_from_promote file at.pages c.promote.result false c.promote.ensures.value c.if-promote.false in
    let own : arc_value c.args.page ≡ file = sym (c.file-file.ensures.number ∙ c.deref.ensures) in
    let len : c.len.result ≡ length at.pages.entries = rw same at c.len.ensures.len in
    let cap = rw same at c.cap.ensures in
    let put = rw same at c.in-Ok.ensures.entries in
    rw (← c.self.view_is) (put_keeps g.F.Tree.files (λ p. arc_value p) file c.size-size.result c.args.page at.pages c.put.new.self at.bytes at.limit c.self.invariant own c.file-file.ensures.there none (omega (arith, len, cap, c.get.ensures.value, c.if-prove.false)) put)

pub overflow_sub-self : goal.overflow_sub-self
overflow_sub-self g c =
    let at = c.loop-self.self-inside in
    let last : last_entry at.pages.entries ≡ Some (c.in-Some.field-0-0, c.in-Some.oldest) = sym c.pop_lru.ensures.value ∙ c.in-Some.is in
    let full : c.args.self.now.limit - c.size-size.result < at.bytes = omega (arith, c.loop-self.invariant.same, c.loop-self-test.true) in
    let step = pop_keeps g.F.Tree.files (λ p. arc_value p) c.args.self.now c.file-file.result c.size-size.result at.pages c.pop_lru.new.self at.bytes at.limit _ c.loop-self.invariant full last c.pop_lru.ensures.entries in
    let size : c.size.result ≡ page_size g.F.Tree.files c.in-Some.field-0-0 = c.size.ensures ∙ ap (page_size g.F.Tree.files) (c.deref-in-Some.ensures ∙ step.0) in
    omega (arith, size, step.1)

pub loop-self-preserved-in-Some : goal.loop-self-preserved-in-Some
loop-self-preserved-in-Some g c =
    let at = c.loop-self.self-inside in
    let last : last_entry at.pages.entries ≡ Some (c.in-Some.field-0-0, c.in-Some.oldest) = sym c.pop_lru.ensures.value ∙ c.in-Some.is in
    let full : c.args.self.now.limit - c.size-size.result < at.bytes = omega (arith, c.loop-self.invariant.same, c.loop-self-test.true) in
    let step = pop_keeps g.F.Tree.files (λ p. arc_value p) c.args.self.now c.file-file.result c.size-size.result at.pages c.pop_lru.new.self at.bytes at.limit _ c.loop-self.invariant full last c.pop_lru.ensures.entries in
    let size : c.size.result ≡ page_size g.F.Tree.files c.in-Some.field-0-0 = c.size.ensures ∙ ap (page_size g.F.Tree.files) (c.deref-in-Some.ensures ∙ step.0) in
    rw size step.2

pub loop-self-preserved : goal.loop-self-preserved
loop-self-preserved g c =
    let at = c.loop-self.self-inside in
    absurd (evict_none g.F.Tree.files c.file-file.result (c.args.self.now.limit - c.size-size.result) c.args.self.now.pages at.pages.entries at.bytes c.loop-self.invariant.list (sym c.pop_lru.ensures.value ∙ c.in_default-pop_lru.is))

pub returns : goal.returns
returns g c =
    let at = c.loop-self.self-inside in
    let pages = c.self.inside.pages in
    let file : c.file-file.result ≡ arc_value c.args.page = c.file-file.ensures.number ∙ c.deref.ensures in
    let size : c.size-size.result ≡ page_size g.F.Tree.files (arc_value c.args.page) = c.size-size.ensures ∙ ap (page_size g.F.Tree.files) c.deref-2.ensures in
    let own : c.size-size.result ≡ page_size g.F.Tree.files c.file-file.result = size ∙ ap (page_size g.F.Tree.files) (sym file) in
    let none : has c.file-file.result (keys_of pages.entries) ≡ false = has_from_promote c.file-file.result pages c.promote.result false c.promote.ensures.value c.if-promote.false in
    let new : has c.file-file.result c.args.self.now.pages ≡ false = rw (← c.self.view_is) none in
    let fit : at.bytes ≤ c.args.self.now.limit - c.size-size.result = omega (arith, c.loop-self.invariant.same, c.loop-self-test.false) in (
      rw (← c.self.view_is) (omega (arith, size, c.if-size-self.false)),
      rw (← file) (keeps_list g.F.Tree.files (λ p. arc_value p) c.args.self.now c.file-file.result c.size-size.result at.pages at.bytes at.limit c.loop-self.invariant fit own new),
    )

pub invariant_of-self-2 : goal.invariant_of-self-2
invariant_of-self-2 g c =
    let at = c.loop-self.self-inside in
    let file : c.file-file.result ≡ arc_value c.args.page = c.file-file.ensures.number ∙ c.deref.ensures in
    let own : c.size-size.result ≡ page_size g.F.Tree.files c.file-file.result = c.size-size.ensures ∙ ap (page_size g.F.Tree.files) (c.deref-2.ensures ∙ sym file) in
    let fit : at.bytes ≤ c.args.self.now.limit - c.size-size.result = omega (arith, c.loop-self.invariant.same, c.loop-self-test.false) in
    let small : c.size-size.result ≤ c.args.self.now.limit = rw (← c.self.view_is) (omega (arith, c.if-size-self.false)) in
    keeps_all g.F.Tree.files (λ p. arc_value p) c.args.self.now c.file-file.result c.size-size.result at.pages at.bytes at.limit c.loop-self.invariant fit own small
