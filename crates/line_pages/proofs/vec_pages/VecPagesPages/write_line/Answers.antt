-- The touch counts as an access where it begins one, and the list's change is that of one line.
use Rattle.std.proofs.Common.{◌≡◌, ◌+◌, ◌*◌, ◌<◌, length, arith, ap, ◌∙◌, slice_set}
use Rattle.line_pages.specs.Stored.{pages_in}
use Rattle.line_pages.specs.Touch.{accesses, touch_of}
use Rattle.line_pages.proofs.StoredLaws.{write_back}
use Rattle.line_pages.proofs.TouchLaws.{accesses_push}
use Rattle.line_pages.proofs.vec_pages.VecPagesPages.write_line.Goals as goal

pub returns-clause-writes : goal.returns-clause-writes
returns-clause-writes c =
    let at : c.args.page * 64 + c.args.line ≡ 64 * c.args.page + c.args.line = omega arith in
    let in_list : 64 * c.args.page + c.args.line < length c.args.self.now.lines.items = omega (arith, c.args.self.now.sized) in
    record {
      touch = record {
        access = c.touch.ensures.access;
        visits = ap (λ ts. length (accesses ts)) c.touch.ensures.touches ∙ accesses_push c.args.self.now.accesses.touches.list (touch_of c.args.self.now.accesses.open_access c.args.page c.args.line _);
        touches = c.touch.ensures.touches;
      };
      current = λ told. ap (λ k. pages_in (slice_set c.args.self.now.lines.items k c.args.value.now)) at
          ∙ write_back c.args.self.now.lines.items c.args.page c.args.line c.args.value.now c.requires.line in_list;
      room = omega arith;
    }
