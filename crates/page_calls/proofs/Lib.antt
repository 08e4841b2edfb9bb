mod Texts
mod Coming
