use Rattle.tstd_rows.proofs.VideoCauses.{cause_law, transferred_law}
use Rattle.tstd_rows.proofs.VideoParts.{leaked_parts, video_figures}
use Rattle.tstd_rows.proofs.view_laws.video.Goals as goal

pub returns-clause-parts : goal.returns-clause-parts
returns-clause-parts c = leaked_parts

pub returns-clause-figures : goal.returns-clause-figures
returns-clause-figures c = video_figures

pub returns-clause-transferred : goal.returns-clause-transferred
returns-clause-transferred c = transferred_law

pub returns-clause-cause : goal.returns-clause-cause
returns-clause-cause c = cause_law
