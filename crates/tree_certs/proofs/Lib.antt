mod Resolutions
mod Soundness
mod RefutingLaws
mod CertLaws
