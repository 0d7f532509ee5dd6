use Rattle.std.proofs.Common.{◌∙◌}
use Rattle.relation_profile.proofs.ViewLaws.{group_view, project_view}
use Rattle.relation_profile.proofs.after.after_one.Goals as goal

pub returns-in-Project : goal.returns-in-Project
returns-in-Project c =
    c.cut.ensures
    ∙ project_view c.args.op.now c.in-Project.field-0 c.args.facts.now c.args.view.now c.args.into c.in-Project.is c.requires.into c.requires.view

pub returns-in-Group : goal.returns-in-Group
returns-in-Group c =
    c.cut-in-Group.ensures
    ∙ group_view c.args.op.now c.in-Group.by c.in-Group.field-1 c.in-Group.field-2 c.args.facts.now c.args.view.now c.args.into
    c.imply-in-Group.result c.in-Group.is c.requires.into c.requires.view c.imply-in-Group.ensures
