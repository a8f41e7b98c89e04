use Rattle.std.proofs.Common.{[], get_or, refl}
use Rattle.xdr.specs.Items.{bool_text}
use Rattle.nfs_types.specs.declared.file_type.FileType.TheVariants.{Regular}
use Rattle.nfs_wire.specs.declared.res.EntryPlus.{EntryPlus}
use Rattle.nfs_wire.specs.Results.{entry_plus_row}
use Rattle.nfs_wire.specs.Short.{HasShortNamePlus}
use Rattle.nfs_wire.specs.Views.{entry_plus_view}
use Rattle.nfs_wire.proofs.Loops.{list_more, each_more}
use Rattle.nfs_wire.proofs.put_list.put_entries_plus.Goals as goal

-- what stands for an entry past the end
abbrev none : EntryPlus
none =
    record {
      entry = record { file = 0; name = record { ref_ptr = (0, 0); now = [] }; cookie = 0 };
      attr =
          record {
            kind = Regular;
            mode = 0;
            nlink = 0;
            uid = 0;
            gid = 0;
            size = 0;
            used = 0;
            rdev = record { major = 0; minor = 0 };
            fsid = 0;
            fileid = 0;
            atime = record { seconds = 0; nanos = 0 };
            mtime = record { seconds = 0; nanos = 0 };
            ctime = record { seconds = 0; nanos = 0 };
          };
      handle = [];
    }

pub loop-plus-preserved : goal.loop-plus-preserved
unfolding bool_text
loop-plus-preserved c =
    let xs = c.args.entries.now in
    let i = c.loop-plus.plus-index in
    let x = get_or xs i none in
    let room = c.loop-plus-test.true in
    let done = c.in_ok-put_entry_plus.ensures in (
      list_more entry_plus_row entry_plus_view xs i none x c.loop-plus.writer c.put_bool.new.self c.put_entry_plus.new.writer _ room refl c.in_ok-put_bool.ensures.ok done.ok c.loop-plus.invariant.0,
      each_more HasShortNamePlus _ entry_plus_view xs i none x room refl done.short c.loop-plus.invariant.1,
    )
